use Rattle.std.proofs.Common.{◌≡◌, ℕ, ◌++◌, map, take}
use Rattle.mvt_messages.specs.Attributes.{attribute_at}
use Rattle.mvt_layers.specs.Seen.{layer_seen, pair_seen}
use Rattle.tile_listing.specs.Listing.{attribute_line, joined_lines}
use Rattle.tile_listing.proofs.attributes.put_few_pairs.Given as goal

abbrev pub invariant-loop-pair : goal.invariant-loop-pair
invariant-loop-pair l = l.text.items ≡ l.fn.text.items ++ joined_lines (map (λ (pair : ℕ × ℕ). attribute_line (attribute_at (layer_seen l.layer) pair)) (map pair_seen (take l.pair-index l.pairs)))

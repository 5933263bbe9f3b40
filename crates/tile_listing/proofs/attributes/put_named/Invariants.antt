use Rattle.std.proofs.Common.{◌≡◌, ℕ, ◌++◌, map, take}
use Rattle.mvt_layers.specs.Seen.{pair_seen}
use Rattle.tile_listing.specs.Listing.{attribute_line, joined_lines}
use Rattle.tile_listing.specs.ListingStands.{contents_of, named_by}
use Rattle.tile_listing.proofs.attributes.put_named.Given as goal

abbrev pub invariant-loop-pair : goal.invariant-loop-pair
invariant-loop-pair l = l.text.items ≡ l.fn.text.items ++ joined_lines (map (λ (pair : ℕ × ℕ). attribute_line (named_by (contents_of l.keys) (contents_of l.values) pair)) (map pair_seen (take l.pair-index l.pairs)))

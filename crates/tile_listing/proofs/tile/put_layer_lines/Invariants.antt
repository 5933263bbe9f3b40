use Rattle.std.proofs.Common.{◌≡◌, ◌++◌, map}
use Rattle.mvt_layers.specs.Seen.{found_layer_seen}
use Rattle.tile_listing.specs.Listing.{layer_line, joined_lines}
use Rattle.tile_listing.proofs.tile.put_layer_lines.Given as goal

abbrev pub invariant-loop-found : goal.invariant-loop-found
invariant-loop-found l = l.text.items ≡ l.fn.text.items ++ joined_lines (map (λ found. layer_line found.0 found.1.1) (map found_layer_seen l.yielded))

use Rattle.std.proofs.Common.{◌≡◌, ◌++◌}
use Rattle.std.proofs.Common.{ℕ, List, Bor}
use Rattle.tile_listing.specs.Listing.{key_line, joined_lines}
use Rattle.tile_listing.proofs.Lines.{lines_seen}
use Rattle.tile_listing.proofs.layer.put_key_lines.Given as goal

abbrev pub invariant-loop-ordinal : goal.invariant-loop-ordinal
invariant-loop-ordinal l = l.text.items ≡ l.fn.text.items ++ joined_lines (lines_seen (λ (key : Bor (List ℕ)). key.now) key_line l.yielded)

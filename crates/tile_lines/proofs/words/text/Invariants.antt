use Rattle.std.proofs.Common.{◌≡◌, length}
use Rattle.tile_lines.specs.Words.{text_at}
use Rattle.tile_lines.proofs.Repeats.{following}
use Rattle.tile_lines.proofs.words.text.Given as goal

abbrev pub invariant-loop-byte : goal.invariant-loop-byte
invariant-loop-byte l = following l.text.items (text_at l.rest) ≡ text_at l.bytes

abbrev pub decreases-loop-byte : goal.decreases-loop-byte
decreases-loop-byte l = length l.rest

use Rattle.std.proofs.Common.{◌≡◌, length}
use Rattle.tile_lines.specs.Words.{text_at}
use Rattle.tile_lines.proofs.words.after_text.Given as goal

abbrev pub invariant-loop-after : goal.invariant-loop-after
invariant-loop-after l = (text_at l.rest).1 ≡ (text_at l.bytes).1

abbrev pub decreases-loop-after : goal.decreases-loop-after
decreases-loop-after l = length l.rest

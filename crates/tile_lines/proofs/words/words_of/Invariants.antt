use Rattle.std.proofs.Common.{◌≡◌, length, map}
use Rattle.tile_lines.specs.Words.{word_at, taken}
use Rattle.tile_lines.specs.WordStands.{word_of}
use Rattle.tile_lines.proofs.Repeats.{following}
use Rattle.tile_lines.proofs.words.words_of.Given as goal

abbrev pub invariant-loop-word : goal.invariant-loop-word
invariant-loop-word l = following (map word_of l.words.items) (taken word_at l.rest) ≡ taken word_at l.line

abbrev pub decreases-loop-word : goal.decreases-loop-word
decreases-loop-word l = length l.rest

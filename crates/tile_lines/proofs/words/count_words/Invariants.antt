use Rattle.std.proofs.Common.{◌≡◌, ◌+◌, ◌≤◌, length}
use Rattle.tile_lines.specs.Words.{word_at, taken}
use Rattle.tile_lines.proofs.words.count_words.Given as goal

abbrev pub invariant-loop-after : goal.invariant-loop-after
invariant-loop-after l = record {
  counted : l.count + length (taken word_at l.rest).0 ≡ length (taken word_at l.line).0;
  left : (taken word_at l.rest).1 ≡ (taken word_at l.line).1;
  within : l.count + length l.rest ≤ length l.line;
}

abbrev pub decreases-loop-after : goal.decreases-loop-after
decreases-loop-after l = length l.rest

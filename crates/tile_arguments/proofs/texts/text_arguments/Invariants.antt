use Rattle.std.proofs.Common.{◌≡◌, drop, map}
use Rattle.tile_lines.specs.WordStands.{word_of}
use Rattle.tile_arguments.specs.Arguments.{each, text_of}
use Rattle.tile_arguments.proofs.Each.{onto}
use Rattle.tile_arguments.proofs.texts.text_arguments.Given as goal

abbrev pub invariant-loop-word : goal.invariant-loop-word
invariant-loop-word l = onto (map (λ text. text.items) l.texts.items) (each (λ w. text_of (word_of w)) (drop l.word-index l.words)) ≡ each (λ w. text_of (word_of w)) l.words

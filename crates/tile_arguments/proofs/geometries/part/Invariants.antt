use Rattle.std.proofs.Common.{◌≡◌, drop}
use Rattle.tile_lines.specs.WordStands.{word_of}
use Rattle.tile_arguments.specs.Arguments.{each, point_of}
use Rattle.tile_arguments.proofs.Each.{onto}
use Rattle.tile_arguments.proofs.geometries.part.Given as goal

abbrev pub invariant-loop-word : goal.invariant-loop-word
invariant-loop-word l = onto l.points.items (each (λ w. point_of (word_of w)) (drop l.word-index l.words)) ≡ each (λ w. point_of (word_of w)) l.words

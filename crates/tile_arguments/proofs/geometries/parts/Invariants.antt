use Rattle.std.proofs.Common.{◌≡◌, length, drop, map}
use Rattle.std.specs.List.{slice_split}
use Rattle.mvt_geometry.specs.Stands.{points_of}
use Rattle.tile_lines.specs.WordStands.{word_of}
use Rattle.tile_arguments.specs.Arguments.{each, part_of, is_bar}
use Rattle.tile_arguments.proofs.Each.{onto}
use Rattle.tile_arguments.proofs.geometries.parts.Given as goal

abbrev pub invariant-loop-group : goal.invariant-loop-group
invariant-loop-group l =
    onto (map points_of l.parts.items) (each (λ group. part_of (map word_of group)) (drop (length l.yielded) (slice_split (λ w. is_bar (word_of w)) l.words)))
    ≡ each (λ group. part_of (map word_of group)) (slice_split (λ w. is_bar (word_of w)) l.words)

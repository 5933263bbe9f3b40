use Rattle.std.proofs.Common.{◌≡◌, length, take}
use Rattle.std.specs.List.{flat_map}
use Rattle.tile_course.specs.Answering.{mark_line}
use Rattle.tile_run.proofs.printed.mark_lines.Given as goal

abbrev pub invariant-loop-index : goal.invariant-loop-index
invariant-loop-index l = l.lines.items ≡ flat_map (mark_line (length l.session.undo)) (take l.index l.session.marks)

use Rattle.std.proofs.Common.{◌≡◌, ◌++◌, take, map}
use Rattle.tile_text.specs.Extends.{Extends}
use Rattle.tile_text.specs.Texts.{point_form}
use Rattle.tile_text.specs.TextStands.{with_leading_spaces}
use Rattle.tile_text.proofs.geometries.put_points.Given as goal

abbrev pub invariant-loop-point : goal.invariant-loop-point
invariant-loop-point l = record {
  kept : Extends l.fn.line.items l.line.items;
  so_far : l.line.items ≡ l.fn.line.items ++ with_leading_spaces (map point_form (take l.point-index l.points));
}

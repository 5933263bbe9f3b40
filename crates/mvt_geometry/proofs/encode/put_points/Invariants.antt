use Rattle.std.proofs.Common.{drop}
use Rattle.mvt_geometry.proofs.Packs.{Putting}
use Rattle.mvt_geometry.proofs.encode.put_points.Given as goal

abbrev pub invariant-loop-point : goal.invariant-loop-point
invariant-loop-point l = Putting l.fn.from l.points l.initial.bytes.items l.last (drop l.point-index l.points) l.bytes.items

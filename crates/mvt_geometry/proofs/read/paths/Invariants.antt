use Rattle.std.proofs.Common.{length, map}
use Rattle.mvt_geometry.specs.Shapes.{least_points}
use Rattle.mvt_geometry.specs.Integers.{closing_of, origin}
use Rattle.mvt_geometry.specs.Stands.{points_of}
use Rattle.mvt_geometry.proofs.Parts.{PartsRead}
use Rattle.mvt_geometry.proofs.read.paths.Given as goal

abbrev pub invariant-loop-rest : goal.invariant-loop-rest
invariant-loop-rest l = PartsRead (least_points l.kind) (closing_of l.kind) origin l.numbers l.from l.rest (map points_of l.parts.items)

abbrev pub decreases-loop-rest : goal.decreases-loop-rest
decreases-loop-rest l = length l.rest

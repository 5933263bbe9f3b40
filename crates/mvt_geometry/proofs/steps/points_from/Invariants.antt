use Rattle.std.proofs.Common.{length}
use Rattle.mvt_geometry.proofs.Moves.{ReadOn}
use Rattle.mvt_geometry.proofs.steps.points_from.Given as goal

abbrev pub invariant-loop-rest : goal.invariant-loop-rest
invariant-loop-rest l = ReadOn l.fn.first l.parameters l.last l.rest l.points.items

abbrev pub decreases-loop-rest : goal.decreases-loop-rest
decreases-loop-rest l = length l.rest

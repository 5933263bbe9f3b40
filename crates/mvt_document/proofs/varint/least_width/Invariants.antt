use Rattle.std.proofs.Common.{◌-◌, ◌≤◌}
use Rattle.mvt_document.proofs.Steps.{IsLeastFrom}
use Rattle.mvt_document.proofs.varint.least_width.Given as goal

abbrev pub invariant-loop-rest : goal.invariant-loop-rest
invariant-loop-rest l = (1 ≤ l.width) × IsLeastFrom l.value l.width l.rest (10 - l.width)

abbrev pub decreases-loop-rest : goal.decreases-loop-rest
decreases-loop-rest l = l.rest

use Rattle.std.proofs.Common.{◌-◌, ◌≤◌, length, map, reverse, take, drop}
use Rattle.mvt_document.specs.Stands.{document_of}
use Rattle.mvt_change.specs.ChangeStands.{step_of}
use Rattle.mvt_change.specs.Underway.{IsUnderway}
use Rattle.mvt_change.proofs.flip_change.flip_steps.Given as goal

abbrev pub invariant-loop-made : goal.invariant-loop-made
invariant-loop-made l = record {
  within : l.made ≤ length l.steps;
  under : IsUnderway (map step_of l.fn.steps) (document_of l.fn.document) (reverse (take l.made l.steps)) (drop l.made l.steps) l.document;
}

abbrev pub decreases-loop-made : goal.decreases-loop-made
decreases-loop-made l = length l.steps - l.made

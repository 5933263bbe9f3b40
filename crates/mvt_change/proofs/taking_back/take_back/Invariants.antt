use Rattle.std.proofs.Common.{◌≤◌, length, map, reverse, take, drop}
use Rattle.mvt_document.specs.Stands.{document_of}
use Rattle.mvt_change.specs.ChangeStands.{step_of}
use Rattle.mvt_change.specs.Changes.{go, turn}
use Rattle.mvt_change.proofs.Underway.{TakesBack}
use Rattle.mvt_change.proofs.taking_back.take_back.Given as goal

abbrev pub invariant-loop-at : goal.invariant-loop-at
invariant-loop-at l = record {
  there : l.at ≤ length l.steps;
  takes : TakesBack (turn (map step_of (reverse l.fn.steps)) (document_of l.fn.document)) (go (map step_of (reverse l.fn.steps)) (document_of l.fn.document)) (reverse (take l.at l.steps)) (drop l.at l.steps) l.document;
}

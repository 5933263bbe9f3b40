use Rattle.std.proofs.Common.{◌≡◌, take, map}
use Rattle.std.specs.List.{sum_by}
use Rattle.mvt_change.specs.ChangeStands.{step_of}
use Rattle.mvt_change.specs.Changes.{step_weight}
use Rattle.test_fixtures.proofs.weights.known_weight.Given as goal

abbrev pub invariant-loop-step : goal.invariant-loop-step
invariant-loop-step l = l.weight ≡ sum_by step_weight (map step_of (take l.step-index l.step-items))

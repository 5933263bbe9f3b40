use Rattle.mvt_change.specs.ChangeStands.{step_of}
use Rattle.mvt_edit_steps.proofs.Following.{alone}
use Rattle.mvt_edit_geometry.proofs.shift.moving.Goals as goal

pub returns-clause-steps : goal.returns-clause-steps
returns-clause-steps c = alone step_of c.new-steps.result.items _ _ c.new-steps.ensures.items c.in_ok-size.ensures.steps

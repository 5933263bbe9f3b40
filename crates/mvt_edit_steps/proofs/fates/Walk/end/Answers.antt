use Rattle.std.proofs.Common.{◌++◌, map, refl, ap, ◌∙◌}
use Rattle.mvt_change.specs.ChangeStands.{step_of}
use Rattle.mvt_edit_steps.proofs.Following.{alone_last}
use Rattle.mvt_edit_steps.proofs.fates.Walk.end.Goals as goal

pub returns : goal.returns
returns g c = λ step_with means. (c.in_ok-put_step.ensures step_with means ∙ ap (λ splices. map step_of c.args.steps.now.items ++ map step_with splices) (alone_last c.args.self.last), refl)

use Rattle.std.proofs.Common.{◌++◌, [], map, ap, ◌∙◌}
use Rattle.std.proofs.lemmas.Result.{IfOk-weaker}
use Rattle.std.specs.List.{cons_option}
use Rattle.mvt_change.specs.ChangeStands.{step_of}
use Rattle.mvt_edit_steps.specs.Fates.{splice_of, steps_then}
use Rattle.mvt_edit_steps.proofs.fates.Walk.end_with.Goals as goal

pub returns : goal.returns
returns g c = λ step_with means.
    let before = steps_then step_with (map step_of c.args.steps.now.items) c.args.self [] in
    IfOk-weaker c.put_step.result _ _ (λ done put.
    put
    ∙ ap (λ steps. steps ++ map step_with (map splice_of (cons_option c.in_ok-end_run.field-0 []))) (c.in_ok-end.ensures step_with means).0
    ∙ ap (λ splices. before ++ map step_with splices) c.in_ok-end_run.ensures) (c.put_step.ensures step_with means)

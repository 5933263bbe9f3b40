use Rattle.std.proofs.Common.{◌++◌, map, rules, ap, ◌∙◌}
use Rattle.std.proofs.lemmas.Result.{IfOk-weaker}
use Rattle.mvt_document.specs.Stands.{field_of}
use Rattle.mvt_change.specs.Changes.{FeatureStep}
use Rattle.mvt_change.specs.ChangeStands.{step_of}
use Rattle.mvt_edit_steps.specs.Decided.{field_fates}
use Rattle.mvt_edit_steps.specs.Fates.{splices_of}
use Rattle.mvt_edit_steps.proofs.Carrying.{in_feature_at}
use Rattle.mvt_edit_steps.proofs.pairs.renumber_feature.Goals as goal

pub returns-clause-steps : goal.returns-clause-steps
returns-clause-steps c =
    let layer = c.args.layer in
    let item = c.args.found.position in
    IfOk-weaker c.renumber_fields.result _ _
    (λ size made. made ∙ ap (λ list. map step_of c.args.steps.now.items ++ map (in_feature_at layer item) (splices_of (field_fates c.args.number c.args.decisions.now (map field_of list)))) c.fields.ensures)
    (c.renumber_fields.ensures.steps (λ s. FeatureStep layer item s.index s.taken s.put) (λ run made says. search rules))

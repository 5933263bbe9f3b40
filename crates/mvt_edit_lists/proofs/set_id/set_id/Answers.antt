use Rattle.std.proofs.Common.{◌≡◌, inr}
use Rattle.std.proofs.lemmas.Result.{err_from_is_err_and}
use Rattle.mvt_document.specs.Stands.{document_of, feature_of, layer_of}
use Rattle.mvt_change.specs.ChangeStands.{step_of}
use Rattle.mvt_meaning.specs.Command.{SetId}
use Rattle.mvt_meaning.specs.CommandStands.{feature_choice_of, layer_choice_of}
use Rattle.mvt_edit_lists.proofs.NamesAndIds.{feature_refused, id_prepared, id_too_large}
use Rattle.mvt_edit_steps.proofs.OneStep.{prepared_within_limit}
use Rattle.mvt_edit_steps.proofs.Refusing.{both_found, ran_out}
use Rattle.mvt_edit_lists.proofs.set_id.set_id.Goals as goal

pub returns : goal.returns
returns c =
    let choice = layer_choice_of c.args.choice.now in
    let feature_choice = feature_choice_of c.args.feature.now in
    let document = document_of c.args.document.now in
    let step = step_of c.in_ok-step.step in
    let holder = c.in_ok-holder.holder in
    let holds = c.in_ok-holder.ensures.found in
    let found = c.in_ok-found.found in
    let is = c.in_ok-found.ensures.found in
    let limited = c.one_step_within_limit.ensures in
    prepared_within_limit (SetId choice feature_choice c.args.id) document step c.one_step_within_limit.result
    (both_found choice feature_choice document holder found holds is)
    limited.made limited.within limited.refused
    (id_prepared choice feature_choice c.args.id document holder.ordinal holder.position (layer_of holder.layer.now) holds.selects holds.placed holds.there found.ordinal found.position (feature_of found.feature.now) is.selects is.placed is.there step c.in_ok-step.ensures)
    (id_too_large choice feature_choice c.args.id document holder.ordinal holder.position (layer_of holder.layer.now) holds.selects holds.placed holds.there found.ordinal found.position (feature_of found.feature.now) is.selects is.placed is.there step c.in_ok-step.ensures)

pub returns-in_err-found : goal.returns-in_err-found
returns-in_err-found c =
    let out_of_memory = err_from_is_err_and c.from_residual-in_err-found.result c.from_residual-in_err-found.ensures.1 in
    let holder = c.in_ok-holder.holder in
    let holds = c.in_ok-holder.ensures.found in
    let same : out_of_memory.0 ≡ c.in_err-found.field-0.0 = out_of_memory.2 in
    rw (out_of_memory.1, same) (inr (feature_refused (layer_choice_of c.args.choice.now) (feature_choice_of c.args.feature.now) c.args.id (document_of c.args.document.now) holder.ordinal holder.position (layer_of holder.layer.now) holds.selects holds.placed holds.there c.in_err-found.field-0.0 c.in_err-found.ensures.refused))

pub returns-in_err-step : goal.returns-in_err-step
returns-in_err-step c =
    let choice = layer_choice_of c.args.choice.now in
    let feature_choice = feature_choice_of c.args.feature.now in
    let document = document_of c.args.document.now in
    let out = c.from_residual-in_err-step in
    ran_out (SetId choice feature_choice c.args.id) document out.result out.ensures.1
    (both_found choice feature_choice document c.in_ok-holder.holder c.in_ok-found.found c.in_ok-holder.ensures.found c.in_ok-found.ensures.found)

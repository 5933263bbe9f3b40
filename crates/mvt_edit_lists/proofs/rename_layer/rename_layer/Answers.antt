use Rattle.mvt_document.specs.Stands.{document_of, layer_of}
use Rattle.mvt_change.specs.ChangeStands.{step_of}
use Rattle.mvt_meaning.specs.Command.{RenameLayer}
use Rattle.mvt_meaning.specs.CommandStands.{layer_choice_of}
use Rattle.mvt_edit_lists.proofs.NamesAndIds.{rename_asks, rename_prepared, rename_too_large}
use Rattle.mvt_edit_steps.proofs.OneStep.{prepared_within_limit}
use Rattle.mvt_edit_steps.proofs.Refusing.{ran_out}
use Rattle.mvt_edit_lists.proofs.rename_layer.rename_layer.Goals as goal

pub returns : goal.returns
returns c =
    let choice = layer_choice_of c.args.choice.now in
    let document = document_of c.args.document.now in
    let step = step_of c.in_ok-step.step in
    let found = c.in_ok-found.found in
    let is = c.in_ok-found.ensures.found in
    let free = c.in_ok-found.ensures.free in
    let limited = c.one_step_within_limit.ensures in
    prepared_within_limit (RenameLayer choice c.args.name.now) document step c.one_step_within_limit.result (rename_asks choice c.args.name.now document found.ordinal is.selects free) limited.made limited.within limited.refused
    (rename_prepared choice c.args.name.now document found.ordinal is.selects free found.position (layer_of found.layer.now) is.placed is.there step c.in_ok-step.ensures)
    (rename_too_large choice c.args.name.now document found.ordinal is.selects free found.position (layer_of found.layer.now) is.placed is.there step c.in_ok-step.ensures)

pub returns-in_err-step : goal.returns-in_err-step
returns-in_err-step c =
    let choice = layer_choice_of c.args.choice.now in
    let document = document_of c.args.document.now in
    let asks = rename_asks choice c.args.name.now document c.in_ok-found.found.ordinal c.in_ok-found.ensures.found.selects c.in_ok-found.ensures.free in
    ran_out (RenameLayer choice c.args.name.now) document c.from_residual-in_err-step.result c.from_residual-in_err-step.ensures.1 asks

use Rattle.std.proofs.Common.{inr, sym, ◌∙◌}
use Rattle.std.proofs.lemmas.Result.{err_from_is_err_and}
use Rattle.mvt_document.specs.Stands.{document_of}
use Rattle.mvt_meaning.specs.Command.{MoveLayer}
use Rattle.mvt_meaning.specs.CommandStands.{layer_choice_of}
use Rattle.mvt_meaning.specs.declared.refusal.Refusal.TheVariants.{BadPlace}
use Rattle.mvt_edit_lists.proofs.MovesPrepared.{layer_move_asks, layer_moves, layer_past}
use Rattle.mvt_edit_steps.proofs.Refusing.{none_refused, ran_out, some_found}
use Rattle.mvt_edit_lists.proofs.move_layer.move_layer.Goals as goal

pub returns-in_err-to : goal.returns-in_err-to
returns-in_err-to c =
    let moving = c.in_ok-from.ensures.found in
    let none = none_refused c.place_of_layer.result c.ok_or.result BadPlace c.in_err-to.field-0.0 c.ok_or.ensures.value c.in_err-to.was in
    let past = sym c.place_of_layer.ensures ∙ none.0 in
    let passed = err_from_is_err_and c.from_residual-in_err-to.result c.from_residual-in_err-to.ensures.1 in
    rw (passed.1, passed.2, none.1) (inr (layer_past (layer_choice_of c.args.choice.now) c.args.index c.in_ok-from.field-0.ordinal (document_of c.args.document.now) moving.selects past))

pub returns : goal.returns
returns c =
    let moving = c.in_ok-from.ensures.found in
    let there = sym c.place_of_layer.ensures ∙ some_found c.place_of_layer.result c.ok_or.result BadPlace c.in_ok-to.to c.ok_or.ensures.value c.in_ok-to.was in
    rw c.in_ok-one_step.ensures (layer_moves (layer_choice_of c.args.choice.now) c.args.index c.in_ok-from.field-0.ordinal c.in_ok-from.field-0.position c.in_ok-to.to (document_of c.args.document.now) moving.selects moving.placed there)

pub returns-in_err-one_step : goal.returns-in_err-one_step
returns-in_err-one_step c =
    let choice = layer_choice_of c.args.choice.now in
    let document = document_of c.args.document.now in
    let moving = c.in_ok-from.ensures.found in
    let there = sym c.place_of_layer.ensures ∙ some_found c.place_of_layer.result c.ok_or.result BadPlace c.in_ok-to.to c.ok_or.ensures.value c.in_ok-to.was in
    ran_out (MoveLayer choice c.args.index) document c.from_residual-in_err-one_step.result c.from_residual-in_err-one_step.ensures.1
    (layer_move_asks choice c.args.index c.in_ok-from.field-0.ordinal c.in_ok-from.field-0.position c.in_ok-to.to document moving.selects moving.placed there)

use Rattle.std.proofs.Common.{inr, sym, ◌∙◌}
use Rattle.std.proofs.lemmas.Result.{err_from_is_err_and}
use Rattle.mvt_document.specs.Stands.{document_of, layer_of}
use Rattle.mvt_meaning.specs.Command.{MoveFeature}
use Rattle.mvt_meaning.specs.CommandStands.{feature_choice_of, layer_choice_of}
use Rattle.mvt_meaning.specs.declared.refusal.Refusal.TheVariants.{BadPlace}
use Rattle.mvt_edit_lists.proofs.MovesPrepared.{feature_move_asks, feature_moves, feature_past, feature_refused}
use Rattle.mvt_edit_steps.proofs.Refusing.{none_refused, ran_out, some_found}
use Rattle.mvt_edit_lists.proofs.move_feature.move_feature.Goals as goal

pub returns-in_err-from : goal.returns-in_err-from
returns-in_err-from c =
    let found = c.in_ok-found.ensures.found in
    let passed = err_from_is_err_and c.from_residual-in_err-from.result c.from_residual-in_err-from.ensures.1 in
    rw (passed.1, passed.2) (inr (feature_refused (layer_choice_of c.args.choice.now) c.in_ok-found.found.ordinal c.in_ok-found.found.position (document_of c.args.document.now) (layer_of c.in_ok-found.found.layer.now) found.selects found.placed found.there
    (feature_choice_of c.args.feature.now) c.args.index c.in_err-from.field-0.0 c.in_err-from.ensures.refused))

pub returns-in_err-to : goal.returns-in_err-to
returns-in_err-to c =
    let found = c.in_ok-found.ensures.found in
    let moving = c.in_ok-from.ensures.found in
    let none = none_refused c.place_of_feature.result c.ok_or.result BadPlace c.in_err-to.field-0.0 c.ok_or.ensures.value c.in_err-to.was in
    let past = sym c.place_of_feature.ensures ∙ none.0 in
    let passed = err_from_is_err_and c.from_residual-in_err-to.result c.from_residual-in_err-to.ensures.1 in
    rw (passed.1, passed.2, none.1) (inr (feature_past (layer_choice_of c.args.choice.now) c.in_ok-found.found.ordinal c.in_ok-found.found.position (document_of c.args.document.now) (layer_of c.in_ok-found.found.layer.now) found.selects found.placed found.there
    (feature_choice_of c.args.feature.now) c.args.index c.in_ok-from.field-0.ordinal moving.selects past))

pub returns : goal.returns
returns c =
    let found = c.in_ok-found.ensures.found in
    let moving = c.in_ok-from.ensures.found in
    let there = sym c.place_of_feature.ensures ∙ some_found c.place_of_feature.result c.ok_or.result BadPlace c.in_ok-to.to c.ok_or.ensures.value c.in_ok-to.was in
    rw c.in_ok-one_step.ensures (feature_moves (layer_choice_of c.args.choice.now) c.in_ok-found.found.ordinal c.in_ok-found.found.position (document_of c.args.document.now) (layer_of c.in_ok-found.found.layer.now) found.selects found.placed found.there
    (feature_choice_of c.args.feature.now) c.args.index c.in_ok-from.field-0.ordinal c.in_ok-from.field-0.position c.in_ok-to.to moving.selects moving.placed there)

pub returns-in_err-one_step : goal.returns-in_err-one_step
returns-in_err-one_step c =
    let choice = layer_choice_of c.args.choice.now in
    let feature = feature_choice_of c.args.feature.now in
    let document = document_of c.args.document.now in
    let found = c.in_ok-found.ensures.found in
    let moving = c.in_ok-from.ensures.found in
    let there = sym c.place_of_feature.ensures ∙ some_found c.place_of_feature.result c.ok_or.result BadPlace c.in_ok-to.to c.ok_or.ensures.value c.in_ok-to.was in
    ran_out (MoveFeature choice feature c.args.index) document c.from_residual-in_err-one_step.result c.from_residual-in_err-one_step.ensures.1
    (feature_move_asks choice c.in_ok-found.found.ordinal c.in_ok-found.found.position document (layer_of c.in_ok-found.found.layer.now) found.selects found.placed found.there
    feature c.args.index c.in_ok-from.field-0.ordinal c.in_ok-from.field-0.position c.in_ok-to.to moving.selects moving.placed there)

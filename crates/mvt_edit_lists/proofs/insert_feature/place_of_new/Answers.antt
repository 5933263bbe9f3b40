use Rattle.std.proofs.Common.{◌≡◌, ◌<◌, ◌-◌, length, map, sym, ◌∙◌, arith, subst}
use Rattle.std.proofs.lemmas.List.{length-map}
use Rattle.mvt_document.specs.Stands.{layer_item_of}
use Rattle.mvt_messages.specs.Views.{feature_in, features_in}
use Rattle.mvt_meaning.specs.Selection.{is_feature}
use Rattle.mvt_meaning.proofs.Found.{no_position_past}
use Rattle.mvt_meaning.proofs.Positions.{positions_within}
use Rattle.mvt_edit_lists.specs.Placing.{IsPlaceFor}
use Rattle.mvt_edit_lists.proofs.Inserting.{after_nth, at_end, before_nth}
use Rattle.mvt_edit_lists.proofs.MovesPrepared.{count_features}
use Rattle.mvt_edit_lists.proofs.insert_feature.place_of_new.Goals as goal

pub returns-in-Some-clause-place : goal.returns-in-Some-clause-place
returns-in-Some-clause-place c =
    before_nth is_feature c.args.ordinal c.in-Some.place (map layer_item_of c.args.layer.now.items.items) (sym c.place_of_feature.ensures ∙ c.in-Some.is)

pub returns-then-ordinal-eq0-clause-place : goal.returns-then-ordinal-eq0-clause-place
returns-then-ordinal-eq0-clause-place c =
    let items = map layer_item_of c.args.layer.now.items.items in
    let past = no_position_past feature_in 0 items c.args.ordinal (sym c.place_of_feature.ensures ∙ c.in_default.is) in
    let end : length items ≡ c.len-end.result = length-map c.args.layer.now.items.items layer_item_of ∙ sym c.len-end.ensures in
    rw c.if-ordinal-eq0.true (subst (IsPlaceFor is_feature 0 items) end (at_end is_feature items (omega (arith, past, count_features items, c.if-ordinal-eq0.true))))

pub returns-in_err-last-clause-none : goal.returns-in_err-last-clause-none
returns-in_err-last-clause-none c =
    let items = map layer_item_of c.args.layer.now.items.items in
    let past = no_position_past feature_in 0 items (c.args.ordinal - 1) (sym c.place_of_feature-2.ensures ∙ c.in_err-last.was) in
    let few : length (features_in items) < c.args.ordinal = omega (arith, past) in
    rw c.from_residual.ensures few

pub overflow_add-result : goal.overflow_add-result
overflow_add-result c =
    let items = map layer_item_of c.args.layer.now.items.items in
    let within = positions_within is_feature 0 items (c.args.ordinal - 1) c.in_ok-last.last (sym c.place_of_feature-2.ensures ∙ c.in_ok-last.was) in
    omega (arith, within.1, length-map c.args.layer.now.items.items layer_item_of, c.len-end.ensures)

pub returns-clause-place : goal.returns-clause-place
returns-clause-place c =
    let items = map layer_item_of c.args.layer.now.items.items in
    let past = no_position_past feature_in 0 items c.args.ordinal (sym c.place_of_feature.ensures ∙ c.in_default.is) in
    after_nth is_feature c.args.ordinal c.in_ok-last.last items (omega arith) (sym c.place_of_feature-2.ensures ∙ c.in_ok-last.was) (omega (arith, past, count_features items))

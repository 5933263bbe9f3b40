use Rattle.std.proofs.Common.{inr, Err, ap, [], ◌∷◌}
use Rattle.std.proofs.lemmas.Result.{err_from_is_err_and}
use Rattle.mvt_document.specs.Stands.{document_of, layer_of}
use Rattle.mvt_change.specs.Changes.{LayerStep}
use Rattle.mvt_meaning.specs.Command.{InsertFeature}
use Rattle.mvt_meaning.specs.CommandStands.{layer_choice_of}
use Rattle.mvt_meaning.specs.Meaning.{new_feature}
use Rattle.mvt_meaning.specs.declared.refusal.Refusal.TheVariants.{BadPlace}
use Rattle.mvt_edit_lists.proofs.InsertionPrepared.{insertion_asks, insertion_fits, insertion_refused, insertion_past, insertion_prepared, insertion_too_large}
use Rattle.mvt_edit_steps.proofs.OneStep.{prepared_within_limit}
use Rattle.mvt_edit_steps.proofs.Refusing.{none_refused, some_found}
use Rattle.mvt_edit_lists.proofs.insert_feature.insert_feature.Goals as goal

pub returns-in_err-place : goal.returns-in_err-place
returns-in_err-place c =
    let found = c.in_ok-found.ensures.found in
    let none = none_refused c.place_of_new.result c.ok_or.result BadPlace c.in_err-place.field-0.0 c.ok_or.ensures.value c.in_err-place.was in
    let past = rw none.0 at c.place_of_new.ensures.none in
    let passed = err_from_is_err_and c.from_residual-in_err-place.result c.from_residual-in_err-place.ensures.1 in
    rw (passed.1, passed.2, none.1) (inr (insertion_past (layer_choice_of c.args.choice.now) c.args.index c.in_ok-found.found.ordinal c.in_ok-found.found.position c.args.geometry.now (document_of c.args.document.now) (layer_of c.in_ok-found.found.layer.now) found.selects found.placed found.there past))

pub returns-in_err-feature : goal.returns-in_err-feature
returns-in_err-feature c =
    let found = c.in_ok-found.ensures.found in
    let place = rw (some_found c.place_of_new.result c.ok_or.result BadPlace c.in_ok-place.place c.ok_or.ensures.value c.in_ok-place.was) at c.place_of_new.ensures.place in
    let passed = err_from_is_err_and c.from_residual-in_err-feature.result c.from_residual-in_err-feature.ensures.1 in
    rw (passed.1, passed.2) (insertion_refused (layer_choice_of c.args.choice.now) c.args.index c.in_ok-found.found.ordinal c.in_ok-found.found.position c.args.geometry.now (document_of c.args.document.now) (layer_of c.in_ok-found.found.layer.now) found.selects found.placed found.there
    c.in_ok-place.place place c.in_err-feature.field-0.0 (λ same. c.in_err-feature.ensures.out_of_range (ap (λ error. Err error) same)))

pub one_step_within_limit-requires : goal.one_step_within_limit-requires
one_step_within_limit-requires c =
    let found = c.in_ok-found.ensures.found in
    let place = rw (some_found c.place_of_new.result c.ok_or.result BadPlace c.in_ok-place.place c.ok_or.ensures.value c.in_ok-place.was) at c.place_of_new.ensures.place in
    rw (c.of_one.ensures.items, c.in_ok-feature.ensures.feature) (
    insertion_fits (layer_choice_of c.args.choice.now) c.args.index c.in_ok-found.found.ordinal c.in_ok-found.found.position c.args.geometry.now (document_of c.args.document.now) (layer_of c.in_ok-found.found.layer.now) found.selects found.placed found.there
    c.in_ok-place.place place
    )

pub returns : goal.returns
returns c =
    let found = c.in_ok-found.ensures.found in
    let place = rw (some_found c.place_of_new.result c.ok_or.result BadPlace c.in_ok-place.place c.ok_or.ensures.value c.in_ok-place.was) at c.place_of_new.ensures.place in
    let choice = layer_choice_of c.args.choice.now in
    let document = document_of c.args.document.now in
    let layer = layer_of c.in_ok-found.found.layer.now in
    let limited = c.one_step_within_limit.ensures in
    prepared_within_limit (InsertFeature choice c.args.index c.args.geometry.now) document (LayerStep c.in_ok-found.found.position c.in_ok-place.place 0 (new_feature c.args.geometry.now ∷ [])) c.one_step_within_limit.result
    (insertion_asks choice c.args.index c.in_ok-found.found.ordinal c.in_ok-found.found.position c.args.geometry.now document layer found.selects found.placed found.there c.in_ok-place.place place)
    (rw (c.of_one.ensures.items, c.in_ok-feature.ensures.feature) at limited.made)
    (rw (c.of_one.ensures.items, c.in_ok-feature.ensures.feature) at limited.within)
    (rw (c.of_one.ensures.items, c.in_ok-feature.ensures.feature) at limited.refused)
    (insertion_prepared choice c.args.index c.in_ok-found.found.ordinal c.in_ok-found.found.position c.args.geometry.now document layer found.selects found.placed found.there c.in_ok-place.place place c.in_ok-feature.ensures.in_range)
    (insertion_too_large choice c.args.index c.in_ok-found.found.ordinal c.in_ok-found.found.position c.args.geometry.now document layer found.selects found.placed found.there c.in_ok-place.place place c.in_ok-feature.ensures.in_range)

use Rattle.std.proofs.Common.{◌++◌, [], length, map, nat_lt, not, option_map, inl, inr, subst, sym, ap, ◌∙◌}
use Rattle.std.proofs.lemmas.Result.{err_from_is_err_and}
use Rattle.std.specs.List.{cons_option}
use Rattle.std.proofs.lemmas.Bool.{not-true, not-false}
use Rattle.mvt_document.specs.declared.TheConstants.{MAX_FILE}
use Rattle.mvt_document.specs.Lists.{change_at}
use Rattle.mvt_document.specs.Places.{change_items, in_feature}
use Rattle.mvt_document.specs.Stands.{document_of, feature_of, field_of, layer_item_of, layer_of}
use Rattle.mvt_document.specs.Wire.{bytes_of}
use Rattle.mvt_value.specs.Messages.{encoded_value}
use Rattle.mvt_value.specs.Stands.{new_value_of}
use Rattle.mvt_layers.specs.Seen.{layer_seen}
use Rattle.mvt_meaning.specs.CommandStands.{feature_choice_of, layer_choice_of}
use Rattle.mvt_meaning.specs.Tagging.{with_attribute}
use Rattle.mvt_edit_steps.specs.Fates.{seen, splice_of}
use Rattle.mvt_edit_steps.proofs.Carrying.{in_feature_at}
use Rattle.mvt_edit_steps.proofs.Refusing.{both_found}
use Rattle.mvt_edit_attributes.specs.Attribute.{AreFound, appended, entries_for}
use Rattle.mvt_edit_attributes.proofs.AttributeSet.{attribute_set, attributed_at, entries_lacked, no_feature_gets, set_ran_out, set_too_large, tags_refused}
use Rattle.mvt_edit_attributes.proofs.set_attribute.set_attribute.Goals as goal

pub returns-in_err-found : goal.returns-in_err-found
returns-in_err-found c =
    let holder = c.in_ok-holder.holder in
    let is = c.in_ok-holder.ensures.found in
    let refused = no_feature_gets (layer_choice_of c.args.choice.now) c.args.key.now (new_value_of c.args.value.now) (document_of c.args.document.now) holder.ordinal holder.position (layer_of holder.layer.now) is.selects is.placed is.there (feature_choice_of c.args.feature.now) _ c.in_err-found.ensures.refused in
    let passed = err_from_is_err_and c.from_residual-in_err-found.result c.from_residual-in_err-found.ensures.1 in
    rw (passed.1, passed.2) (inr refused)

pub returns-in_err-value : goal.returns-in_err-value
returns-in_err-value c =
    let out = c.from_residual-in_err-value in
    set_ran_out (layer_choice_of c.args.choice.now) (feature_choice_of c.args.feature.now) (document_of c.args.document.now) c.in_ok-holder.holder c.in_ok-found.found c.in_ok-holder.ensures.found c.in_ok-found.ensures.found c.args.key.now (new_value_of c.args.value.now) out.result out.ensures.1

pub returns-in_err-run : goal.returns-in_err-run
returns-in_err-run c =
    let holder = c.in_ok-holder.holder in
    let is = c.in_ok-holder.ensures.found in
    let found = c.in_ok-found.found in
    let here = c.in_ok-found.ensures.found in
    let passed = err_from_is_err_and c.from_residual-in_err-run.result c.from_residual-in_err-run.ensures.1 in
    rw (passed.1, passed.2) (
    elim c.in_err-run.ensures.refused [
      | inl memory ↦ inl (memory, both_found (layer_choice_of c.args.choice.now) (feature_choice_of c.args.feature.now) (document_of c.args.document.now) holder found is here)
      | inr refused ↦ inr (tags_refused (layer_choice_of c.args.choice.now) c.args.key.now (new_value_of c.args.value.now) (document_of c.args.document.now) holder.ordinal holder.position (layer_of holder.layer.now) is.selects is.placed is.there (feature_choice_of c.args.feature.now) found.ordinal found.position (feature_of found.feature.now) here.selects here.placed here.there _ refused)
    ])

pub returns-in_err-entries : goal.returns-in_err-entries
returns-in_err-entries c =
    let out = c.from_residual-in_err-entries in
    set_ran_out (layer_choice_of c.args.choice.now) (feature_choice_of c.args.feature.now) (document_of c.args.document.now) c.in_ok-holder.holder c.in_ok-found.found c.in_ok-holder.ensures.found c.in_ok-found.ensures.found c.args.key.now (new_value_of c.args.value.now) out.result out.ensures.1

pub returns-then-not-fits_with : goal.returns-then-not-fits_with
returns-then-not-fits_with c =
    let choice = layer_choice_of c.args.choice.now in
    let key = c.args.key.now in
    let value = new_value_of c.args.value.now in
    let bytes = encoded_value value in
    let document = document_of c.args.document.now in
    let holder = c.in_ok-holder.holder in
    let is = c.in_ok-holder.ensures.found in
    let found = c.in_ok-found.found in
    let here = c.in_ok-found.ensures.found in
    let layer = layer_of holder.layer.now in
    let feature = feature_of found.feature.now in
    let are : AreFound key bytes layer c.look_for-ordinals.result = subst (λ l. AreFound key bytes l c.look_for-ordinals.result) c.view.ensures (subst (λ b. AreFound key b (layer_seen c.view.result) c.look_for-ordinals.result) (c.as_slice.ensures ∙ c.in_ok-value.ensures.bytes) c.look_for-ordinals.ensures) in
    let gives = c.in_ok-run.ensures.gives bytes are in
    let entries = c.in_ok-entries.ensures ∙ ap (λ b. entries_for key b c.look_for-ordinals.result) c.in_ok-value.ensures.bytes ∙ entries_lacked key bytes layer c.look_for-ordinals.result are in
    let answered = c.fits_with.ensures (with_attribute key bytes layer.items) (sym gives.makes)
    ∙ ap (λ more. not (nat_lt MAX_FILE (length (bytes_of (change_items (λ items. change_at (in_feature (with_attribute key bytes layer.items)) found.position items ++ more) holder.position document))))) (ap (map layer_item_of) c.as_slice-2.ensures.value ∙ entries) in
    inr (set_too_large choice key value document holder.ordinal holder.position layer is.selects is.placed is.there (feature_choice_of c.args.feature.now) found.ordinal found.position feature here.selects here.placed here.there c.in_ok-run.ensures.checked (not-false (nat_lt MAX_FILE (length (bytes_of (change_items (attributed_at key bytes layer.items found.position) holder.position document)))) (sym answered ∙ c.if-not-fits_with.true)))

pub returns-in_err-steps_of : goal.returns-in_err-steps_of
returns-in_err-steps_of c =
    let out = c.from_residual-in_err-steps_of in
    set_ran_out (layer_choice_of c.args.choice.now) (feature_choice_of c.args.feature.now) (document_of c.args.document.now) c.in_ok-holder.holder c.in_ok-found.found c.in_ok-holder.ensures.found c.in_ok-found.ensures.found c.args.key.now (new_value_of c.args.value.now) out.result out.ensures.1

pub returns : goal.returns
returns c =
    let choice = layer_choice_of c.args.choice.now in
    let key = c.args.key.now in
    let value = new_value_of c.args.value.now in
    let bytes = encoded_value value in
    let document = document_of c.args.document.now in
    let holder = c.in_ok-holder.holder in
    let is = c.in_ok-holder.ensures.found in
    let found = c.in_ok-found.found in
    let here = c.in_ok-found.ensures.found in
    let layer = layer_of holder.layer.now in
    let feature = feature_of found.feature.now in
    let are : AreFound key bytes layer c.look_for-ordinals.result = subst (λ l. AreFound key bytes l c.look_for-ordinals.result) c.view.ensures (subst (λ b. AreFound key b (layer_seen c.view.result) c.look_for-ordinals.result) (c.as_slice.ensures ∙ c.in_ok-value.ensures.bytes) c.look_for-ordinals.ensures) in
    let gives = c.in_ok-run.ensures.gives bytes are in
    let entries = c.in_ok-entries.ensures ∙ ap (λ b. entries_for key b c.look_for-ordinals.result) c.in_ok-value.ensures.bytes ∙ entries_lacked key bytes layer c.look_for-ordinals.result are in
    let answered = c.fits_with.ensures (with_attribute key bytes layer.items) (sym gives.makes)
    ∙ ap (λ more. not (nat_lt MAX_FILE (length (bytes_of (change_items (λ items. change_at (in_feature (with_attribute key bytes layer.items)) found.position items ++ more) holder.position document))))) (ap (map layer_item_of) c.as_slice-2.ensures.value ∙ entries) in
    attribute_set choice key value document holder.ordinal holder.position layer is.selects is.placed is.there (feature_choice_of c.args.feature.now) found.ordinal found.position feature here.selects here.placed here.there c.in_ok-run.ensures.checked
    (not-true (nat_lt MAX_FILE (length (bytes_of (change_items (attributed_at key bytes layer.items found.position) holder.position document)))) (sym answered ∙ c.if-not-fits_with.false)) _ gives _
    (c.in_ok-steps_of.ensures ∙ ap (λ list. map (in_feature_at holder.position found.position) (cons_option (option_map (λ run. seen field_of (splice_of run)) c.in_ok-run.run') []) ++ appended holder.position layer.items list) entries)

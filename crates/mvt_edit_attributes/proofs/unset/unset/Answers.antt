use Rattle.std.proofs.Common.{Err, inl, inr, sym, ap, ◌∙◌}
use Rattle.std.proofs.lemmas.Result.{err_from_is_err_and}
use Rattle.mvt_document.specs.Stands.{document_of, feature_of, layer_of}
use Rattle.mvt_meaning.specs.Command.{UnsetAttribute}
use Rattle.mvt_meaning.specs.CommandStands.{feature_choice_of, layer_choice_of}
use Rattle.mvt_meaning.specs.Tagging.{removals}
use Rattle.mvt_meaning.proofs.Removals.{removals_short}
use Rattle.mvt_layers.specs.Seen.{found_feature_seen}
use Rattle.mvt_edit_steps.specs.Decided.{field_fates}
use Rattle.mvt_edit_steps.proofs.FieldsLeft.{fields_left}
use Rattle.mvt_edit_steps.specs.EachFeature.{feature_steps}
use Rattle.mvt_edit_steps.proofs.Refusing.{both_found, ran_out}
use Rattle.mvt_edit_attributes.proofs.PairsLost.{key_lacks, no_feature_loses, pairs_lack, tags_lose}
use Rattle.mvt_edit_attributes.proofs.unset.unset.Goals as goal

pub returns-in_err-found : goal.returns-in_err-found
returns-in_err-found c =
    let holder = c.in_ok-holder.ensures.found in
    let refused = no_feature_loses (layer_choice_of c.args.choice.now) c.args.key.now (document_of c.args.document.now) c.in_ok-holder.holder.ordinal c.in_ok-holder.holder.position (layer_of c.in_ok-holder.holder.layer.now) holder.selects holder.placed holder.there (feature_choice_of c.args.feature.now) _ c.in_err-found.ensures.refused in
    let passed = err_from_is_err_and c.from_residual-in_err-found.result c.from_residual-in_err-found.ensures.1 in
    rw (passed.1, passed.2) (inr refused)

pub returns-in_err-decisions : goal.returns-in_err-decisions
returns-in_err-decisions c =
    let choice = layer_choice_of c.args.choice.now in
    let key = c.args.key.now in
    let holder = c.in_ok-holder.holder in
    let is = c.in_ok-holder.ensures.found in
    let found = c.in_ok-found.found in
    let here = c.in_ok-found.ensures.found in
    let layer = layer_of holder.layer.now in
    let feature = feature_of found.feature.now in
    let passed = err_from_is_err_and c.from_residual-in_err-decisions.result c.from_residual-in_err-decisions.ensures.1 in
    rw (passed.1, passed.2) (
    elim c.in_err-decisions.ensures.refused [
      | inl memory ↦ inl (memory, both_found choice (feature_choice_of c.args.feature.now) (document_of c.args.document.now) holder found is here)
      | inr other ↦ (
          elim other [
            | inl lacks ↦ inr (key_lacks choice key (document_of c.args.document.now) holder.ordinal holder.position layer is.selects is.placed is.there (feature_choice_of c.args.feature.now) found.ordinal found.position feature here.selects here.placed here.there lacks.1 ∙ ap Err (sym lacks.0))
            | inr bad ↦ inr (pairs_lack choice key (document_of c.args.document.now) holder.ordinal holder.position layer is.selects is.placed is.there (feature_choice_of c.args.feature.now) found.ordinal found.position feature here.selects here.placed here.there bad.1 bad.2 ∙ ap Err (sym bad.0))
          ]
          )
    ])

pub returns-in_err-removing : goal.returns-in_err-removing
returns-in_err-removing c =
    let choice = layer_choice_of c.args.choice.now in
    let feature = feature_choice_of c.args.feature.now in
    let document = document_of c.args.document.now in
    let out = c.from_residual-in_err-removing in
    ran_out (UnsetAttribute choice feature c.args.key.now) document out.result out.ensures.1
    (both_found choice feature document c.in_ok-holder.holder c.in_ok-found.found c.in_ok-holder.ensures.found c.in_ok-found.ensures.found)

pub returns : goal.returns
returns c =
    let key = c.args.key.now in
    let holder = c.in_ok-holder.holder in
    let is = c.in_ok-holder.ensures.found in
    let found = c.in_ok-found.found in
    let here = c.in_ok-found.ensures.found in
    let layer = layer_of holder.layer.now in
    let feature = feature_of found.feature.now in
    let decided = c.in_ok-decisions.ensures in
    let left = fields_left 2 (removals key layer.items feature.fields) found.feature.now.fields.items (removals_short key layer.items feature.fields) in
    tags_lose (layer_choice_of c.args.choice.now) key (document_of c.args.document.now) holder.ordinal holder.position layer is.selects is.placed is.there (feature_choice_of c.args.feature.now) found.ordinal found.position feature here.selects here.placed here.there decided.has decided.readable left _
    (c.in_ok-removing.ensures ∙ ap (λ decisions. feature_steps (field_fates 2 decisions) holder.position (found_feature_seen found)) (c.as_slice.ensures.value ∙ decided.decided))

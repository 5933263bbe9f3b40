use Rattle.std.proofs.Common.{Err, length, map, nat_lt, inl, inr, sym, ap, ◌∙◌, subst, w64}
use Rattle.std.proofs.lemmas.Bool.{not-false, not-true}
use Rattle.std.proofs.lemmas.Int.{to_z-of_z}
use Rattle.std.proofs.lemmas.Result.{err_from_is_err_and}
use Rattle.std.specs.List.{flat_map}
use Rattle.mvt_document.specs.declared.TheConstants.{MAX_FILE}
use Rattle.mvt_document.specs.Places.{change_fields}
use Rattle.mvt_document.specs.Stands.{document_of, feature_of, layer_of}
use Rattle.mvt_document.specs.Wire.{bytes_of, field_bytes}
use Rattle.mvt_renumber.specs.Renumbering.{renumber}
use Rattle.mvt_change.specs.ChangeStands.{step_of}
use Rattle.mvt_change.specs.FileSizes.{IsFileSize}
use Rattle.mvt_meaning.specs.Command.{Shift}
use Rattle.mvt_meaning.specs.CommandStands.{feature_choice_of, layer_choice_of}
use Rattle.mvt_meaning.specs.Geometries.{moves, shifted}
use Rattle.mvt_meaning.proofs.Moving.{moves_short}
use Rattle.mvt_edit_steps.specs.Decided.{field_fates}
use Rattle.mvt_edit_steps.specs.Fates.{splices_of}
use Rattle.mvt_edit_steps.proofs.Carrying.{in_feature_at}
use Rattle.mvt_edit_steps.proofs.FieldsLeft.{fields_left}
use Rattle.mvt_edit_steps.proofs.Refusing.{both_found, ran_out}
use Rattle.mvt_edit_geometry.proofs.Shifted.{no_feature_moves, not_drawn, shift_made, shift_too_large, too_far}
use Rattle.mvt_edit_geometry.proofs.shift.shift.Goals as goal

pub returns-in_err-found : goal.returns-in_err-found
returns-in_err-found c =
    let holder = c.in_ok-holder.holder in
    let is = c.in_ok-holder.ensures.found in
    let refused = no_feature_moves (layer_choice_of c.args.choice.now) c.args.dx c.args.dy (document_of c.args.document.now) holder.ordinal holder.position (layer_of holder.layer.now) is.selects is.placed is.there (feature_choice_of c.args.feature.now) _ c.in_err-found.ensures.refused in
    let passed = err_from_is_err_and c.from_residual-in_err-found.result c.from_residual-in_err-found.ensures.1 in
    rw (passed.1, passed.2) (inr refused)

pub returns-in_err-decisions : goal.returns-in_err-decisions
returns-in_err-decisions c =
    let holder = c.in_ok-holder.holder in
    let is = c.in_ok-holder.ensures.found in
    let found = c.in_ok-found.found in
    let here = c.in_ok-found.ensures.found in
    let feature = feature_of found.feature.now in
    let refused = rw (to_z-of_z w64 c.args.dx c.ranges.dx, to_z-of_z w64 c.args.dy c.ranges.dy) at c.in_err-decisions.ensures.refused in
    let passed = err_from_is_err_and c.from_residual-in_err-decisions.result c.from_residual-in_err-decisions.ensures.1 in
    rw (passed.1, passed.2) (
    elim refused [
      | inl memory ↦ inl (memory, both_found (layer_choice_of c.args.choice.now) (feature_choice_of c.args.feature.now) (document_of c.args.document.now) holder found is here)
      | inr other ↦ (
          elim other [
            | inl bad ↦ inr (not_drawn (layer_choice_of c.args.choice.now) c.args.dx c.args.dy (document_of c.args.document.now) holder.ordinal holder.position (layer_of holder.layer.now) is.selects is.placed is.there (feature_choice_of c.args.feature.now) found.ordinal found.position feature here.selects here.placed here.there bad.1 ∙ ap Err (sym bad.0))
            | inr far ↦ inr (too_far (layer_choice_of c.args.choice.now) c.args.dx c.args.dy (document_of c.args.document.now) holder.ordinal holder.position (layer_of holder.layer.now) is.selects is.placed is.there (feature_choice_of c.args.feature.now) found.ordinal found.position feature here.selects here.placed here.there far.1 far.2 ∙ ap Err (sym far.0))
          ]
          )
    ])

pub returns-in_err-steps : goal.returns-in_err-steps
returns-in_err-steps c =
    let choice = layer_choice_of c.args.choice.now in
    let feature = feature_choice_of c.args.feature.now in
    let document = document_of c.args.document.now in
    let out = c.from_residual-in_err-steps in
    ran_out (Shift choice feature c.args.dx c.args.dy) document out.result out.ensures.1
    (both_found choice feature document c.in_ok-holder.holder c.in_ok-found.found c.in_ok-holder.ensures.found c.in_ok-found.ensures.found)

pub returns-then-not-fits_with_fields : goal.returns-then-not-fits_with_fields
returns-then-not-fits_with_fields c =
    let dx = c.args.dx in
    let dy = c.args.dy in
    let document = document_of c.args.document.now in
    let holder = c.in_ok-holder.holder in
    let is = c.in_ok-holder.ensures.found in
    let found = c.in_ok-found.found in
    let here = c.in_ok-found.ensures.found in
    let layer = layer_of holder.layer.now in
    let feature = feature_of found.feature.now in
    let can = rw (to_z-of_z w64 dx c.ranges.dx, to_z-of_z w64 dy c.ranges.dy) at c.in_ok-decisions.ensures.able in
    let decided = rw (to_z-of_z w64 dx c.ranges.dx, to_z-of_z w64 dy c.ranges.dy) at c.in_ok-decisions.ensures.decided in
    let size = subst (λ decisions. IsFileSize c.in_ok-steps.fields (length (flat_map field_bytes (renumber 4 decisions feature.fields)))) decided c.in_ok-steps.ensures.size in
    let answered = c.fits_with_fields.ensures (shifted dx dy) size in
    inr (shift_too_large (layer_choice_of c.args.choice.now) dx dy document holder.ordinal holder.position layer is.selects is.placed is.there (feature_choice_of c.args.feature.now) found.ordinal found.position feature here.selects here.placed here.there c.in_ok-decisions.ensures.drawn can (not-false (nat_lt MAX_FILE (length (bytes_of (change_fields (shifted dx dy) holder.position found.position document)))) (sym answered ∙ c.if-not-fits_with_fields.true)))

pub returns : goal.returns
returns c =
    let dx = c.args.dx in
    let dy = c.args.dy in
    let document = document_of c.args.document.now in
    let holder = c.in_ok-holder.holder in
    let is = c.in_ok-holder.ensures.found in
    let found = c.in_ok-found.found in
    let here = c.in_ok-found.ensures.found in
    let layer = layer_of holder.layer.now in
    let feature = feature_of found.feature.now in
    let drawn = c.in_ok-decisions.ensures.drawn in
    let can = rw (to_z-of_z w64 dx c.ranges.dx, to_z-of_z w64 dy c.ranges.dy) at c.in_ok-decisions.ensures.able in
    let decided = rw (to_z-of_z w64 dx c.ranges.dx, to_z-of_z w64 dy c.ranges.dy) at c.in_ok-decisions.ensures.decided in
    let size = subst (λ decisions. IsFileSize c.in_ok-steps.fields (length (flat_map field_bytes (renumber 4 decisions feature.fields)))) decided c.in_ok-steps.ensures.size in
    let answered = c.fits_with_fields.ensures (shifted dx dy) size in
    let left = fields_left 4 (moves dx dy feature.fields) found.feature.now.fields.items (moves_short dx dy feature.fields drawn can) in
    shift_made (layer_choice_of c.args.choice.now) dx dy document holder.ordinal holder.position layer is.selects is.placed is.there (feature_choice_of c.args.feature.now) found.ordinal found.position feature here.selects here.placed here.there drawn can
    (not-true (nat_lt MAX_FILE (length (bytes_of (change_fields (shifted dx dy) holder.position found.position document)))) (sym answered ∙ c.if-not-fits_with_fields.false)) left _
    (c.new.ensures.change ∙ c.in_ok-steps.ensures.steps ∙ ap (λ decisions. map (in_feature_at holder.position found.position) (splices_of (field_fates 4 decisions feature.fields))) decided)

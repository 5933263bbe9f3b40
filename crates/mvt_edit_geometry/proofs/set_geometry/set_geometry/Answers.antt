use Rattle.std.proofs.Common.{◌≡◌, ◌+◌, ◌-◌, ◌∷◌, Err, length, map, nat_lt, inr, subst, sym, ap, ◌∙◌, arith}
use Rattle.std.proofs.lemmas.Bool.{not-false, not-true}
use Rattle.std.proofs.lemmas.Result.{err_from_is_err_and}
use Rattle.std.proofs.lemmas.List.{length-map}
use Rattle.mvt_document.specs.declared.TheConstants.{MAX_FILE}
use Rattle.mvt_document.specs.Opens.{IsField}
use Rattle.mvt_document.specs.Places.{change_fields}
use Rattle.mvt_document.specs.Stands.{document_of, feature_of, field_of, layer_of}
use Rattle.mvt_document.specs.Wire.{bytes_of, field_bytes}
use Rattle.mvt_geometry.specs.Shapes.{kind_number}
use Rattle.mvt_change.specs.Changes.{FeatureStep}
use Rattle.mvt_meaning.specs.Command.{SetGeometry}
use Rattle.mvt_meaning.specs.CommandStands.{feature_choice_of, layer_choice_of}
use Rattle.mvt_meaning.specs.Geometries.{is_geometry_field, is_kind, with_geometry, with_kind}
use Rattle.mvt_edit_steps.specs.Once.{once_splices}
use Rattle.mvt_edit_steps.specs.PutsLast.{ReplacesLast}
use Rattle.mvt_edit_steps.proofs.Carrying.{in_feature_at}
use Rattle.mvt_edit_steps.proofs.Refusing.{both_found, ran_out}
use Rattle.mvt_edit_geometry.proofs.Drawn.{drawn_size}
use Rattle.mvt_edit_geometry.proofs.GeometrySet.{drawing_refused, drawn_too_large, geometry_set, no_feature_drawn}
use Rattle.mvt_edit_geometry.proofs.Redrawn.{drawings_heavy}
use Rattle.mvt_edit_geometry.proofs.set_geometry.set_geometry.Goals as goal

pub returns-in_err-found : goal.returns-in_err-found
returns-in_err-found c =
    let holder = c.in_ok-holder.holder in
    let is = c.in_ok-holder.ensures.found in
    let refused = no_feature_drawn (layer_choice_of c.args.choice.now) c.args.geometry.now (document_of c.args.document.now) holder.ordinal holder.position (layer_of holder.layer.now) is.selects is.placed is.there (feature_choice_of c.args.feature.now) _ c.in_err-found.ensures.refused in
    let passed = err_from_is_err_and c.from_residual-in_err-found.result c.from_residual-in_err-found.ensures.1 in
    rw (passed.1, passed.2) (inr refused)

pub returns-in_err-drawing : goal.returns-in_err-drawing
returns-in_err-drawing c =
    let holder = c.in_ok-holder.holder in
    let is = c.in_ok-holder.ensures.found in
    let found = c.in_ok-found.found in
    let here = c.in_ok-found.ensures.found in
    let passed = err_from_is_err_and c.from_residual-in_err-drawing.result c.from_residual-in_err-drawing.ensures.1 in
    rw (passed.1, passed.2) (drawing_refused (layer_choice_of c.args.choice.now) c.args.geometry.now (document_of c.args.document.now) holder.ordinal holder.position (layer_of holder.layer.now) is.selects is.placed is.there (feature_choice_of c.args.feature.now) found.ordinal found.position (feature_of found.feature.now) here.selects here.placed here.there c.in_err-drawing.field-0.0 (λ same. c.in_err-drawing.ensures.out_of_range (ap (λ error. Err error) same)))

pub returns-in_err-steps_of : goal.returns-in_err-steps_of
returns-in_err-steps_of c =
    let choice = layer_choice_of c.args.choice.now in
    let feature = feature_choice_of c.args.feature.now in
    let document = document_of c.args.document.now in
    let out = c.from_residual-in_err-steps_of in
    ran_out (SetGeometry choice feature c.args.geometry.now) document out.result out.ensures.1
    (both_found choice feature document c.in_ok-holder.holder c.in_ok-found.found c.in_ok-holder.ensures.found c.in_ok-found.ensures.found)

pub size_drawn-size-requires : goal.size_drawn-size-requires
size_drawn-size-requires c = let within = c.in_ok-drawing.ensures.kind.can.within in omega (arith, within, length-map c.fields-fields.result.now field_of)

pub steps_of-requires : goal.steps_of-requires
steps_of-requires c = let within = c.in_ok-drawing.ensures.kind.can.within in rw (← c.fields-fields.ensures) (omega (arith, within))

pub returns-then-not-fits_with_fields : goal.returns-then-not-fits_with_fields
returns-then-not-fits_with_fields c =
    let geometry = c.args.geometry.now in
    let document = document_of c.args.document.now in
    let holder = c.in_ok-holder.holder in
    let is = c.in_ok-holder.ensures.found in
    let found = c.in_ok-found.found in
    let here = c.in_ok-found.ensures.found in
    let layer = layer_of holder.layer.now in
    let feature = feature_of found.feature.now in
    let kind = c.in_ok-drawing.drawing.kind in
    let size = drawn_size geometry feature.fields (map field_of c.fields-fields.result.now) kind.index kind.take (map field_of kind.put.items) (field_of c.in_ok-drawing.drawing.field) c.size_drawn-size.result (ap (map field_of) c.fields-fields.ensures) c.in_ok-drawing.ensures.kind.makes c.in_ok-drawing.ensures.field c.size_drawn-size.ensures in
    let answered = c.fits_with_fields.ensures (with_geometry geometry) size in
    inr (drawn_too_large (layer_choice_of c.args.choice.now) geometry document holder.ordinal holder.position layer is.selects is.placed is.there (feature_choice_of c.args.feature.now) found.ordinal found.position feature here.selects here.placed here.there c.in_ok-drawing.ensures.in_range
    (not-false (nat_lt MAX_FILE (length (bytes_of (change_fields (with_geometry geometry) holder.position found.position document)))) (sym answered ∙ c.if-not-fits_with_fields.true)))

pub returns : goal.returns
returns c =
    let geometry = c.args.geometry.now in
    let document = document_of c.args.document.now in
    let holder = c.in_ok-holder.holder in
    let is = c.in_ok-holder.ensures.found in
    let found = c.in_ok-found.found in
    let here = c.in_ok-found.ensures.found in
    let layer = layer_of holder.layer.now in
    let feature = feature_of found.feature.now in
    let kind = c.in_ok-drawing.drawing.kind in
    let seen = ap (map field_of) c.fields-fields.ensures in
    let field = c.in_ok-drawing.ensures.field in
    let size = drawn_size geometry feature.fields (map field_of c.fields-fields.result.now) kind.index kind.take (map field_of kind.put.items) (field_of c.in_ok-drawing.drawing.field) c.size_drawn-size.result seen c.in_ok-drawing.ensures.kind.makes field c.size_drawn-size.ensures in
    let answered = c.fits_with_fields.ensures (with_geometry geometry) size in
    let replaces = subst (λ list. ReplacesLast IsField field_bytes is_kind list (with_kind (kind_number geometry.kind) list) kind.index kind.take (map field_of kind.put.items)) seen c.in_ok-drawing.ensures.kind in
    let one : length (map field_of kind.put.items) ≡ 1 = length-map kind.put.items field_of ∙ c.in_ok-drawing.ensures.one in
    geometry_set (layer_choice_of c.args.choice.now) geometry document holder.ordinal holder.position layer is.selects is.placed is.there (feature_choice_of c.args.feature.now) found.ordinal found.position feature here.selects here.placed here.there c.in_ok-drawing.ensures.in_range
    (not-true (nat_lt MAX_FILE (length (bytes_of (change_fields (with_geometry geometry) holder.position found.position document)))) (sym answered ∙ c.if-not-fits_with_fields.false))
    kind.index kind.take (map field_of kind.put.items) replaces one (drawings_heavy found.feature.now.fields.items) _
    (c.in_ok-steps_of.ensures ∙ ap (λ field. FeatureStep holder.position found.position kind.index kind.take (map field_of kind.put.items) ∷ map (in_feature_at holder.position found.position) (once_splices (map is_geometry_field feature.fields) field (length feature.fields - kind.take + 1))) field)

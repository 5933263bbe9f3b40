use Rattle.std.proofs.Common.{length, refl, arith}
use Rattle.std.proofs.lemmas.List.{length-map}
use Rattle.std.proofs.lemmas.Option.{slice_get_within}
use Rattle.std.specs.List.{flat_map}
use Rattle.mvt_document.specs.declared.TheConstants.{MAX_FILE}
use Rattle.mvt_document.specs.Plain.{OfFeature}
use Rattle.mvt_document.specs.Stands.{feature_of, layer_item_of, layer_of}
use Rattle.mvt_document.specs.Wire.{field_bytes}
use Rattle.mvt_document.proofs.Sizes.{same_size}
use Rattle.mvt_change.specs.FileSizes.{IsFileSize}
use Rattle.mvt_change.proofs.Resized.{items_resized, of_fields_there}
use Rattle.mvt_change.proofs.sizes.items_size.Goals as goal

pub size_with-requires : goal.size_with-requires
size_with-requires c =
    let items = c.args.layer.now.items.items in
    omega (arith, length-map items layer_item_of, slice_get_within (layer_of c.args.layer.now).items c.args.item (OfFeature (feature_of c.feature_at-holder.result.now)) c.feature_at-holder.ensures)

pub returns-in_err-fields : goal.returns-in_err-fields
returns-in_err-fields c = λ change takes.
    let feature = feature_of c.feature_at-holder.result.now in
    let answered = of_fields_there c.args.item (layer_of c.args.layer.now).items feature (λ old. IsFileSize c.args.fields (length (flat_map field_bytes (change old)))) c.feature_at-holder.ensures takes in
    let none = rw c.in_err-fields.was at answered in
    rw c.from_residual.ensures (λ within. none (omega (arith, within, items_resized layer_item_of change c.args.item c.args.layer.now.items.items feature _ c.feature_at-holder.ensures refl)))

pub returns-in_err-size : goal.returns-in_err-size
returns-in_err-size c = λ change takes.
    let feature = feature_of c.feature_at-holder.result.now in
    let answered = of_fields_there c.args.item (layer_of c.args.layer.now).items feature (λ old. IsFileSize c.args.fields (length (flat_map field_bytes (change old)))) c.feature_at-holder.ensures takes in
    let some = rw c.in_ok-fields.was at answered in
    let none = rw (c.tag.ensures, c.width.ensures) at c.in_err-size.ensures in
    rw c.from_residual-in_err-size.ensures (λ within. none (omega (arith, within, items_resized layer_item_of change c.args.item c.args.layer.now.items.items feature c.in_ok-fields.field-0 c.feature_at-holder.ensures some.1)))

pub returns : goal.returns
returns c = λ change takes.
    let feature = feature_of c.feature_at-holder.result.now in
    let answered = of_fields_there c.args.item (layer_of c.args.layer.now).items feature (λ old. IsFileSize c.args.fields (length (flat_map field_bytes (change old)))) c.feature_at-holder.ensures takes in
    let some = rw c.in_ok-fields.was at answered in
    let whole = items_resized layer_item_of change c.args.item c.args.layer.now.items.items feature c.in_ok-fields.field-0 c.feature_at-holder.ensures some.1 in
    let size = rw (c.tag.ensures, c.width.ensures) at c.in_ok-size.ensures.1 in
    same_size MAX_FILE c.size_with.result _ _ (omega (arith, whole, size)) c.size_with.ensures

use Rattle.std.proofs.Common.{length, refl, arith}
use Rattle.std.proofs.lemmas.List.{length-map}
use Rattle.std.proofs.lemmas.Option.{slice_get_within}
use Rattle.std.specs.List.{flat_map}
use Rattle.mvt_document.specs.declared.TheConstants.{MAX_FILE}
use Rattle.mvt_document.specs.Plain.{OfLayer}
use Rattle.mvt_document.specs.Stands.{document_of, layer_of, tile_item_of}
use Rattle.mvt_document.specs.Wire.{layer_item_bytes}
use Rattle.mvt_document.proofs.Sizes.{same_size}
use Rattle.mvt_change.specs.FileSizes.{IsFileSize}
use Rattle.mvt_change.proofs.Resized.{of_items_there, tile_resized}
use Rattle.mvt_change.proofs.sizes.tile_size.Goals as goal

pub size_with-requires : goal.size_with-requires
size_with-requires c =
    let items = c.args.document.now.items.items in
    omega (arith, length-map items tile_item_of, slice_get_within (document_of c.args.document.now) c.args.layer (OfLayer (layer_of c.layer_at-holder.result.now)) c.layer_at-holder.ensures)

pub returns-in_err-items : goal.returns-in_err-items
returns-in_err-items c = λ change takes.
    let layer = layer_of c.layer_at-holder.result.now in
    let answered = of_items_there c.args.layer (document_of c.args.document.now) layer (λ old. IsFileSize c.args.items (length (flat_map layer_item_bytes (change old)))) c.layer_at-holder.ensures takes in
    let none = rw c.in_err-items.was at answered in
    rw c.from_residual.ensures (λ within. none (omega (arith, within, tile_resized tile_item_of change c.args.layer c.args.document.now.items.items layer _ c.layer_at-holder.ensures refl)))

pub returns-in_err-size : goal.returns-in_err-size
returns-in_err-size c = λ change takes.
    let layer = layer_of c.layer_at-holder.result.now in
    let answered = of_items_there c.args.layer (document_of c.args.document.now) layer (λ old. IsFileSize c.args.items (length (flat_map layer_item_bytes (change old)))) c.layer_at-holder.ensures takes in
    let some = rw c.in_ok-items.was at answered in
    let none = rw c.to_tag.ensures at c.in_err-size.ensures in
    rw c.from_residual-in_err-size.ensures (λ within. none (omega (arith, within, tile_resized tile_item_of change c.args.layer c.args.document.now.items.items layer c.in_ok-items.field-0 c.layer_at-holder.ensures some.1)))

pub returns : goal.returns
returns c = λ change takes.
    let layer = layer_of c.layer_at-holder.result.now in
    let answered = of_items_there c.args.layer (document_of c.args.document.now) layer (λ old. IsFileSize c.args.items (length (flat_map layer_item_bytes (change old)))) c.layer_at-holder.ensures takes in
    let some = rw c.in_ok-items.was at answered in
    let whole = tile_resized tile_item_of change c.args.layer c.args.document.now.items.items layer c.in_ok-items.field-0 c.layer_at-holder.ensures some.1 in
    let size = rw c.to_tag.ensures at c.in_ok-size.ensures.1 in
    same_size MAX_FILE c.size_with.result _ _ (omega (arith, whole, size)) c.size_with.ensures

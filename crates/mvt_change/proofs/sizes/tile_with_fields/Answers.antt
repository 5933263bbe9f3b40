use Rattle.std.proofs.Common.{map, length, subst}
use Rattle.std.specs.List.{flat_map}
use Rattle.std.specs.Option.{IsSomeAnd, option_and_then}
use Rattle.mvt_document.specs.declared.TheConstants.{MAX_FILE}
use Rattle.mvt_document.specs.Stands.{document_of, feature_of, field_of, layer_of}
use Rattle.mvt_document.specs.Wire.{field_bytes, layer_item_bytes}
use Rattle.mvt_document.specs.Splicing.{splice}
use Rattle.mvt_document.specs.Lists.{HasPart, change_at}
use Rattle.mvt_document.specs.Places.{fields_at, fields_in_at, in_feature, items_at, items_in}
use Rattle.mvt_document.proofs.Sizes.{same_size}
use Rattle.mvt_change.specs.FileSizes.{IsFileSize}
use Rattle.mvt_change.proofs.Resized.{exchanged_size, fields_there, items_there, some_around, some_found}
use Rattle.mvt_change.proofs.sizes.tile_with_fields.Goals as goal

pub layer_at-holder-requires : goal.layer_at-holder-requires
layer_at-holder-requires c =
    let document = document_of c.args.document.now in
    some_around (fields_in_at c.args.item) (items_at c.args.layer document) (some_found (fields_at c.args.layer c.args.item document) (HasPart c.args.index c.args.taken) c.requires)

pub feature_at-requires : goal.feature_at-requires
feature_at-requires c =
    let items = (layer_of c.layer_at-holder.result.now).items in
    some_found (fields_in_at c.args.item items) (HasPart c.args.index c.args.taken)
    (subst (λ o. IsSomeAnd (option_and_then (fields_in_at c.args.item) (option_and_then items_in o)) (HasPart c.args.index c.args.taken)) c.layer_at-holder.ensures c.requires)

pub returns : goal.returns
returns c =
    let holder = c.layer_at-holder.result.now in
    let feature = c.feature_at.result.now in
    let put = c.args.put.now in
    let change = splice c.args.index c.args.taken (map field_of put) in
    let inside = change_at (in_feature change) c.args.item in
    let size = c.size_and.ensures _ (rw c.fields-fields.ensures at c.size_beside_part-beside.ensures) in
    let answered = same_size MAX_FILE c.size_and.result _ _ (exchanged_size field_bytes field_of c.args.index c.args.taken put feature.fields.items) size in
    let items = c.items_size-items.ensures change (fields_there c.args.item (layer_of holder).items (feature_of feature) (λ old. IsFileSize c.size_and.result (length (flat_map field_bytes (change old)))) c.feature_at.ensures answered) in
    c.tile_size.ensures inside (items_there c.args.layer (document_of c.args.document.now) (layer_of holder) (λ old. IsFileSize c.items_size-items.result (length (flat_map layer_item_bytes (inside old)))) c.layer_at-holder.ensures items)

use Rattle.std.proofs.Common.{map, length, subst, arith}
use Rattle.std.proofs.lemmas.List.{length-map}
use Rattle.std.specs.List.{flat_map}
use Rattle.std.specs.Option.{IsSomeAnd, option_and_then}
use Rattle.mvt_document.specs.declared.TheConstants.{MAX_FILE}
use Rattle.mvt_document.specs.Stands.{document_of, layer_item_of, layer_of}
use Rattle.mvt_document.specs.Wire.{layer_item_bytes}
use Rattle.mvt_document.specs.Splicing.{splice}
use Rattle.mvt_document.specs.Lists.{HasPart}
use Rattle.mvt_document.specs.Places.{items_at, items_in}
use Rattle.mvt_document.proofs.Sizes.{same_size}
use Rattle.mvt_change.specs.FileSizes.{IsFileSize}
use Rattle.mvt_change.proofs.Resized.{exchanged_size, items_there, some_found}
use Rattle.mvt_change.proofs.sizes.tile_with_items.Goals as goal

pub layer_at-holder-requires : goal.layer_at-holder-requires
layer_at-holder-requires c = some_found (items_at c.args.layer (document_of c.args.document.now)) (HasPart c.args.index c.args.taken) c.requires

pub size_beside_part-beside-requires : goal.size_beside_part-beside-requires
size_beside_part-beside-requires c =
    let items = c.layer_at-holder.result.now.items.items in
    let has : HasPart c.args.index c.args.taken (map layer_item_of items) = subst (λ o. IsSomeAnd (option_and_then items_in o) (HasPart c.args.index c.args.taken)) c.layer_at-holder.ensures c.requires in
    omega (arith, has, length-map items layer_item_of)

pub returns : goal.returns
returns c =
    let holder = c.layer_at-holder.result.now in
    let put = c.args.put.now in
    let change = splice c.args.index c.args.taken (map layer_item_of put) in
    let size = c.size_and.ensures _ c.size_beside_part-beside.ensures in
    let answered = same_size MAX_FILE c.size_and.result _ _ (exchanged_size layer_item_bytes layer_item_of c.args.index c.args.taken put holder.items.items) size in
    c.tile_size.ensures change (items_there c.args.layer (document_of c.args.document.now) (layer_of holder) (λ old. IsFileSize c.size_and.result (length (flat_map layer_item_bytes (change old)))) c.layer_at-holder.ensures answered)

use Rattle.std.proofs.Common.{length, sym, ap, ◌∙◌}
use Rattle.std.proofs.lemmas.List.Folds.{flat_map-map}
use Rattle.mvt_document.specs.declared.TheConstants.{MAX_FILE}
use Rattle.mvt_document.specs.Stands.{document_of, tile_item_of}
use Rattle.mvt_document.specs.Wire.{tile_item_bytes}
use Rattle.mvt_change.specs.ChangeStands.{place_of}
use Rattle.mvt_document.proofs.Sizes.{same_size}
use Rattle.mvt_change.proofs.Resized.{exchanged_size, moved_same}
use Rattle.mvt_change.proofs.sizes.size_after.Goals as goal

pub returns-in-InTile : goal.returns-in-InTile
returns-in-InTile c =
    let put = c.in-InTile.put.items in
    let size = c.size_and.ensures _ c.size_beside_part-beside.ensures in
    rw c.in-InTile.is (same_size MAX_FILE c.size_and.result _ _ (exchanged_size tile_item_bytes tile_item_of c.in-InTile.index c.in-InTile.take put c.args.document.now.items.items) (rw c.as_slice.ensures at size))

pub returns-in-Move : goal.returns-in-Move
returns-in-Move c =
    rw c.in-Move.is (same_size MAX_FILE c.size.result _ _ (ap length (sym (flat_map-map tile_item_bytes tile_item_of c.args.document.now.items.items)) ∙ moved_same (place_of c.in-Move.place) c.in-Move.from c.in-Move.to (document_of c.args.document.now)) c.size.ensures)

use Rattle.std.proofs.Common.{refl, arith}
use Rattle.mvt_document.specs.Stands.{tile_item_of}
use Rattle.mvt_document.specs.Places.{items_in}
use Rattle.mvt_change.proofs.Resized.{is_there, is_read, is_no_other}
use Rattle.mvt_change.proofs.sizes.layer_at.Goals as goal

pub offset_bounds-as_slice-position : goal.offset_bounds-as_slice-position
offset_bounds-as_slice-position c =
    let there = is_there items_in tile_item_of c.args.document.now.items.items c.as_slice.result.now c.args.position c.as_slice.ensures c.requires in
    omega (arith, there, c.as_slice.type_inv)

pub bounds-as_slice-position : goal.bounds-as_slice-position
bounds-as_slice-position c = is_there items_in tile_item_of c.args.document.now.items.items c.as_slice.result.now c.args.position c.as_slice.ensures c.requires

pub unreachable-requires : goal.unreachable-requires
unreachable-requires c =
    is_no_other items_in tile_item_of c.args.document.now.items.items c.as_slice.result.now c.args.position c.as_slice.ensures c.requires c.index-as_slice-position.result _ c.index-as_slice-position.is c.in-Plain.is refl

pub returns : goal.returns
returns c =
    is_read items_in tile_item_of c.args.document.now.items.items c.as_slice.result.now c.args.position c.as_slice.ensures c.requires c.index-as_slice-position.result _ c.index-as_slice-position.is c.in-Layer.is

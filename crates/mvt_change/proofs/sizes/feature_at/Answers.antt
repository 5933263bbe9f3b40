use Rattle.std.proofs.Common.{refl, arith}
use Rattle.mvt_document.specs.Stands.{layer_item_of}
use Rattle.mvt_document.specs.Places.{fields_in}
use Rattle.mvt_change.proofs.Resized.{is_there, is_read, is_no_other}
use Rattle.mvt_change.proofs.sizes.feature_at.Goals as goal

pub offset_bounds-as_slice-position : goal.offset_bounds-as_slice-position
offset_bounds-as_slice-position c =
    let there = is_there fields_in layer_item_of c.args.layer.now.items.items c.as_slice.result.now c.args.position c.as_slice.ensures c.requires in
    omega (arith, there, c.as_slice.type_inv)

pub bounds-as_slice-position : goal.bounds-as_slice-position
bounds-as_slice-position c = is_there fields_in layer_item_of c.args.layer.now.items.items c.as_slice.result.now c.args.position c.as_slice.ensures c.requires

pub unreachable-requires : goal.unreachable-requires
unreachable-requires c =
    is_no_other fields_in layer_item_of c.args.layer.now.items.items c.as_slice.result.now c.args.position c.as_slice.ensures c.requires c.index-as_slice-position.result _ c.index-as_slice-position.is c.in-Plain.is refl

pub returns : goal.returns
returns c =
    is_read fields_in layer_item_of c.args.layer.now.items.items c.as_slice.result.now c.args.position c.as_slice.ensures c.requires c.index-as_slice-position.result _ c.index-as_slice-position.is c.in-Feature.is

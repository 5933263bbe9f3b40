use Rattle.std.proofs.Common.{map, refl}
use Rattle.mvt_document.specs.Plain.{PlainInLayer}
use Rattle.mvt_document.specs.Opens.{IsLayerItem}
use Rattle.mvt_document.specs.Stands.{layer_item_of}
use Rattle.mvt_document.specs.Wire.{layer_item_bytes}
use Rattle.mvt_meaning.specs.Meaning.{is_name, new_content, with_text}
use Rattle.mvt_edit_steps.proofs.Putting.{old_passes, run_puts}
use Rattle.mvt_edit_lists.proofs.Replaced.{name_kept}
use Rattle.mvt_edit_lists.proofs.rename_layer.naming.Goals as goal

pub name_item-requires : goal.name_item-requires
name_item-requires c =
    let name = c.args.name.now in
    let last = rw (← c.as_slice-items.ensures) at c.last_name.ensures in
    old_passes layer_item_of is_name (with_text name) (PlainInLayer (new_content 10 name)) refl (name_kept name) layer_item_bytes c.as_slice-items.result.now c.last_name.result c.of-spot.result.index c.get.result last c.of-spot.ensures.index c.get.ensures.lookup

pub returns : goal.returns
returns c =
    let name = c.args.name.now in
    let last = rw (← c.as_slice-items.ensures) at c.last_name.ensures in
    rw (← c.as_slice-items.ensures) (record {
      index = c.of-spot.result.index;
      taken = c.of-spot.result.take;
      put = map layer_item_of c.of_one.result.items;
      parts = refl;
      replaces =
          run_puts layer_item_of is_name (with_text name) (PlainInLayer (new_content 10 name)) refl (name_kept name) layer_item_bytes IsLayerItem c.as_slice-items.result.now c.last_name.result c.of-spot.result.index c.of-spot.result.take c.get.result c.in_ok-item.item c.of_one.result.items last c.of-spot.ensures.index c.of-spot.ensures.take c.get.ensures.lookup c.in_ok-item.ensures.item c.in_ok-item.ensures.valid c.of_one.ensures.items;
    })

use Rattle.std.proofs.Common.{List, ◌++◌, map, take}
use Rattle.mvt_document.specs.Plain as plain
use Rattle.mvt_document.specs.Stands.{layer_item_of}
use Rattle.mvt_edit_attributes.specs.KeyFates.{FindsKeys}
use Rattle.mvt_edit_attributes.proofs.rename_key.and_items.Given as goal

abbrev pub invariant-loop-item : goal.invariant-loop-item
invariant-loop-item l = (before : List plain.LayerItem) → FindsKeys l.old l.new before l.fn.keys → FindsKeys l.old l.new (before ++ map layer_item_of (take l.item-index l.items)) l.keys

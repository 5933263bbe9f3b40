-- Values of the program that are the same and have no less room in any list.
use Rattle.std.specs.Prelude.{◌≡◌, ℕ, ◌+◌, ◌≤◌, length}
use Rattle.std.specs.List.{AllZip}
use Rattle.mvt_document.specs.Held.{Held}
use Rattle.mvt_document.specs.declared.field.FieldParts.{FieldParts as Field}
use Rattle.mvt_document.specs.declared.document.LayerItem.{LayerItem}
use Rattle.mvt_document.specs.declared.document.LayerItem.TheVariants as in_layer
use Rattle.mvt_document.specs.declared.document.TileItem.{TileItem}
use Rattle.mvt_document.specs.declared.document.TileItem.TheVariants as in_tile
use Rattle.mvt_document.specs.declared.document.Document.{Document}

-- how many items the list can have without growing
abbrev pub capacity : {T : Type 0} → Held T → ℕ
capacity list = length list.items + list.room

-- each item is kept, as `Keeps` says, and the list has no less capacity
pub record KeepsList {T : Type 0} (Keeps : T → T → Type 0) (old new : Held T) : Type 0 where
  pub items : AllZip Keeps old.items new.items
  pub room : capacity old ≤ capacity new

-- the same field
abbrev pub KeepsField : Field → Field → Type 0
KeepsField old new = old ≡ new

-- the same tag, length width and list of a message, with no less room
pub record KeepsMessage {N T : Type 0} (Keeps : T → T → Type 0) (old_tag new_tag : N) (old_width new_width : ℕ) (old new : Held T) : Type 0 where
  pub tag : old_tag ≡ new_tag
  pub width : old_width ≡ new_width
  pub list : KeepsList Keeps old new

-- the same item of a layer, with no less room
abbrev pub KeepsLayerItem : LayerItem → LayerItem → Type 0
KeepsLayerItem (in_layer.Feature old) (in_layer.Feature new) = KeepsMessage KeepsField old.tag new.tag old.width new.width old.fields new.fields
KeepsLayerItem (in_layer.Plain old) (in_layer.Plain new) = KeepsField old new
KeepsLayerItem old new = ⊥

-- the same item of a tile, with no less room in any of its lists
abbrev pub KeepsTileItem : TileItem → TileItem → Type 0
KeepsTileItem (in_tile.Layer old) (in_tile.Layer new) = KeepsMessage KeepsLayerItem old.tag new.tag old.width new.width old.items new.items
KeepsTileItem (in_tile.Plain old) (in_tile.Plain new) = KeepsField old new
KeepsTileItem old new = ⊥

-- the same document, with no less room in any of its lists
abbrev pub KeepsDocument : Document → Document → Type 0
KeepsDocument old new = KeepsList KeepsTileItem old.items new.items

-- The lists of a document of the program by their places, and what is kept of their items.
use Rattle.std.specs.Prelude.{Option, Some}
use Rattle.mvt_document.specs.Held.{Held}
use Rattle.mvt_document.specs.Stands.{field_of, layer_item_of, tile_item_of}
use Rattle.mvt_document.specs.HeldPlaces.{held_items_at, held_fields_at, change_held_tile, change_held_items, change_held_fields}
use Rattle.mvt_document.specs.declared.field.FieldParts.{FieldParts as Field}
use Rattle.mvt_document.specs.declared.document.LayerItem.{LayerItem}
use Rattle.mvt_document.specs.declared.document.TileItem.{TileItem}
use Rattle.mvt_document.specs.declared.document.Document.{Document}
use Rattle.mvt_change.specs.Changes.{Place, OfTheTile, OfTheLayer, OfTheFeature, ItemAt}
use Rattle.mvt_change.specs.Room.{KeepsField, KeepsLayerItem, KeepsTileItem}

-- what the items of the list at a place are
abbrev pub HeldItemAt : Place → Type 0
HeldItemAt OfTheTile = TileItem
HeldItemAt (OfTheLayer layer) = LayerItem
HeldItemAt (OfTheFeature layer item) = Field

-- the plain item that an item of the list at a place stands for
abbrev pub plain_item : (place : Place) → HeldItemAt place → ItemAt place
plain_item OfTheTile item = tile_item_of item
plain_item (OfTheLayer layer) item = layer_item_of item
plain_item (OfTheFeature layer item) field = field_of field

-- the list at a place, with its room; none where there is no layer, or no feature
abbrev pub held_list_at : (place : Place) → Document → Option (Held (HeldItemAt place))
held_list_at OfTheTile document = Some document.items
held_list_at (OfTheLayer layer) document = held_items_at layer document
held_list_at (OfTheFeature layer item) document = held_fields_at layer item document

-- the document with the list at a place changed; as it is where there is none
abbrev pub change_held_list : (place : Place) → (Held (HeldItemAt place) → Held (HeldItemAt place)) → Document → Document
change_held_list OfTheTile change document = change_held_tile change document
change_held_list (OfTheLayer layer) change document = change_held_items change layer document
change_held_list (OfTheFeature layer item) change document = change_held_fields change layer item document

-- the same item of the list at a place, with no less room
abbrev pub KeepsItemAt : (place : Place) → HeldItemAt place → HeldItemAt place → Type 0
KeepsItemAt OfTheTile old new = KeepsTileItem old new
KeepsItemAt (OfTheLayer layer) old new = KeepsLayerItem old new
KeepsItemAt (OfTheFeature layer item) old new = KeepsField old new

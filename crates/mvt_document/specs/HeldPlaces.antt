-- The lists of a document of the program, with their room, as Places gives those of a plain one.
use Rattle.std.specs.Prelude.{ℕ, slice_get, Option, Some, None}
use Rattle.std.specs.Option.{option_and_then}
use Rattle.mvt_document.specs.Held.{Held}
use Rattle.mvt_document.specs.declared.field.FieldParts.{FieldParts as Field}
use Rattle.mvt_document.specs.declared.document.LayerItem.{LayerItem}
use Rattle.mvt_document.specs.declared.document.LayerItem.TheVariants as in_layer
use Rattle.mvt_document.specs.declared.document.TileItem.{TileItem}
use Rattle.mvt_document.specs.declared.document.TileItem.TheVariants as in_tile
use Rattle.mvt_document.specs.declared.document.Document.{Document}
use Rattle.mvt_document.specs.Lists.{change_at}

-- the items of the layer that an item of a tile is, or none
abbrev pub held_items_in : TileItem → Option (Held LayerItem)
held_items_in (in_tile.Layer layer) = Some layer.items
held_items_in (in_tile.Plain field) = None

-- the fields of the feature that an item of a layer is, or none
abbrev pub held_fields_in : LayerItem → Option (Held Field)
held_fields_in (in_layer.Feature feature) = Some feature.fields
held_fields_in (in_layer.Plain field) = None

-- the items of the layer at this position of the tile; none where there is no layer
abbrev pub held_items_at : ℕ → Document → Option (Held LayerItem)
held_items_at layer document = option_and_then held_items_in (slice_get document.items.items layer)

-- the fields of the feature at this position of a layer; none where there is no feature
abbrev pub held_fields_in_at : ℕ → Held LayerItem → Option (Held Field)
held_fields_in_at item list = option_and_then held_fields_in (slice_get list.items item)

-- the fields of the feature at this position of the layer at that position of the tile; none where there is none
abbrev pub held_fields_at : ℕ → ℕ → Document → Option (Held Field)
held_fields_at layer item document = option_and_then (held_fields_in_at item) (held_items_at layer document)

-- ---- the document with the list at a place changed, and unchanged where there is none

-- the layer with its items changed; a field of the tile stays as it is
abbrev pub in_held_layer : (Held LayerItem → Held LayerItem) → TileItem → TileItem
in_held_layer change (in_tile.Layer layer) = in_tile.Layer (record layer { items = change layer.items })
in_held_layer change (in_tile.Plain field) = in_tile.Plain field

-- the feature with its fields changed; another field of the layer stays as it is
abbrev pub in_held_feature : (Held Field → Held Field) → LayerItem → LayerItem
in_held_feature change (in_layer.Feature feature) = in_layer.Feature (record feature { fields = change feature.fields })
in_held_feature change (in_layer.Plain field) = in_layer.Plain field

-- the list with the item at this position changed, and with the same room
abbrev pub change_held_at : {T : Type 0} → (T → T) → ℕ → Held T → Held T
change_held_at change at list = record list { items = change_at change at list.items }

-- the document with the items of the tile changed
abbrev pub change_held_tile : (Held TileItem → Held TileItem) → Document → Document
change_held_tile change document = record document { items = change document.items }

-- the document with the items of the layer at this position changed; unchanged where there is no layer
abbrev pub change_held_items : (Held LayerItem → Held LayerItem) → ℕ → Document → Document
change_held_items change layer document = change_held_tile (change_held_at (in_held_layer change) layer) document

-- the document with the fields of the feature at this position of that layer changed; unchanged where there is none
abbrev pub change_held_fields : (Held Field → Held Field) → ℕ → ℕ → Document → Document
change_held_fields change layer item document = change_held_items (change_held_at (in_held_feature change) item) layer document

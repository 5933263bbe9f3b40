-- The lists of a document: the items of the tile, those of the layer at a position of the tile, and the fields of the
-- feature at a position of that layer. Positions count all items of a list.
use Rattle.std.specs.Prelude.{ℕ, List, slice_get, Option, Some, None}
use Rattle.std.specs.Option.{option_and_then}
use Rattle.mvt_document.specs.Plain.{Field, LayerItem, OfFeature, PlainInLayer, TileItem, OfLayer, PlainInTile, Document}
use Rattle.mvt_document.specs.Lists.{change_at}

-- ---- the list at a place; there is none where the position is not that of a layer, or of a feature

-- the items of the layer that an item of a tile is, or none
abbrev pub items_in : TileItem → Option (List LayerItem)
items_in (OfLayer layer) = Some layer.items
items_in (PlainInTile field) = None

-- the fields of the feature that an item of a layer is, or none
abbrev pub fields_in : LayerItem → Option (List Field)
fields_in (OfFeature feature) = Some feature.fields
fields_in (PlainInLayer field) = None

-- the items of the layer at this position of the tile; none where there is no layer (tiles 4.1)
abbrev pub items_at : ℕ → Document → Option (List LayerItem)
items_at layer document = option_and_then items_in (slice_get document layer)

-- the fields of the feature at this position of a layer; none where there is no feature
abbrev pub fields_in_at : ℕ → List LayerItem → Option (List Field)
fields_in_at item items = option_and_then fields_in (slice_get items item)

-- the fields of the feature at this position of the layer at that position of the tile; none where there is none
-- (tiles 4.2)
abbrev pub fields_at : ℕ → ℕ → Document → Option (List Field)
fields_at layer item document = option_and_then (fields_in_at item) (items_at layer document)

-- ---- the document with the list at a place changed, and unchanged where there is none

-- the layer with its items changed; a field of the tile stays as it is
abbrev pub in_layer : (List LayerItem → List LayerItem) → TileItem → TileItem
in_layer change (OfLayer layer) = OfLayer (record layer { items = change layer.items })
in_layer change (PlainInTile field) = PlainInTile field

-- the feature with its fields changed; another field of the layer stays as it is
abbrev pub in_feature : (List Field → List Field) → LayerItem → LayerItem
in_feature change (OfFeature feature) = OfFeature (record feature { fields = change feature.fields })
in_feature change (PlainInLayer field) = PlainInLayer field

-- the document with the items of the layer at this position changed; unchanged where there is no layer
abbrev pub change_items : (List LayerItem → List LayerItem) → ℕ → Document → Document
change_items change layer document = change_at (in_layer change) layer document

-- the document with the fields of the feature at this position of that layer changed; unchanged where there is none
abbrev pub change_fields : (List Field → List Field) → ℕ → ℕ → Document → Document
change_fields change layer item document = change_items (change_at (in_feature change) item) layer document

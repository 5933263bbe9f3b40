-- Each item of a message as the field in its place.
use Rattle.std.specs.Prelude.{◌≡◌, ℕ, ◌/◌, ◌%◌}
use Rattle.std.specs.List.{flat_map}
use Rattle.mvt_document.specs.Plain.{Body, Delimited, Field, Feature, LayerItem, OfFeature, PlainInLayer, Layer, TileItem, OfLayer, PlainInTile}
use Rattle.mvt_document.specs.Wire.{field_bytes, layer_item_bytes}
use Rattle.mvt_document.specs.Groups.{IsWholeBodyWith, IsWholeFieldWith, IsGroup}
use Rattle.mvt_document.specs.Opens.{IsLayerItem, IsTileItem, StoresLayerItem, StoresTileItem}

-- a feature as a field: its tag, and a LEN body of the bytes of its fields
abbrev pub feature_field : Feature → Field
feature_field f = record { tag = f.tag; body = Delimited f.width (flat_map field_bytes f.fields) }

-- an item of a layer as a field
abbrev pub layer_item_field : LayerItem → Field
layer_item_field (OfFeature feature) = feature_field feature
layer_item_field (PlainInLayer field) = field

-- a layer as a field: its tag, and a LEN body of the bytes of its items
abbrev pub layer_field : Layer → Field
layer_field l = record { tag = l.tag; body = Delimited l.width (flat_map layer_item_bytes l.items) }

-- an item of a tile as a field
abbrev pub tile_item_field : TileItem → Field
tile_item_field (OfLayer layer) = layer_field layer
tile_item_field (PlainInTile field) = field

-- ---- valid, with each length spelled in its stored width

-- a valid body after a tag of this value, whose length can be spelled in its stored width
abbrev pub IsWholeBody : ℕ → Body → Type 0
IsWholeBody tag body = IsWholeBodyWith IsGroup (tag % 8) (tag / 8) body

-- a valid field whose length can be spelled in its stored width
abbrev pub IsWholeField : Field → Type 0
IsWholeField = IsWholeFieldWith IsGroup

-- a valid item of a layer in which each length can be spelled in its stored width
pub record IsWholeLayerItem (i : LayerItem) : Type 0 where
  pub valid : IsLayerItem i
  pub stored : StoresLayerItem i

-- a valid item of a tile in which each length can be spelled in its stored width
pub record IsWholeTileItem (i : TileItem) : Type 0 where
  pub valid : IsTileItem i
  pub stored : StoresTileItem i

-- ---- which fields are items

-- the field is that of a valid item of a layer in which each length can be spelled in its stored width
abbrev pub MakesLayerItem : Field → Type 0
MakesLayerItem f = (i : LayerItem) × IsWholeLayerItem i × (layer_item_field i ≡ f)

-- the field is that of a valid item of a tile in which each length can be spelled in its stored width
abbrev pub MakesTileItem : Field → Type 0
MakesTileItem f = (i : TileItem) × IsWholeTileItem i × (tile_item_field i ≡ f)

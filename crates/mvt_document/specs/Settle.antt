-- A document with each stored width raised to the width that its length is written in.
use Rattle.std.specs.Prelude.{ℕ, ◌^◌, ◌<◌, max, List, length, map}
use Rattle.std.specs.List.{flat_map, AllByRecursion}
use Rattle.mvt_document.specs.Plain.{Body, Delimited, Field, Feature, LayerItem, OfFeature, PlainInLayer, Layer, TileItem, OfLayer, PlainInTile, Document}
use Rattle.mvt_document.specs.Wire.{minimal_width, field_bytes, layer_item_bytes}

-- the width in which the length of these bytes is written: the stored width, or the least width of the length where
-- that is greater
abbrev pub written_width : ℕ → List ℕ → ℕ
written_width width bytes = max width (minimal_width (length bytes))

-- a body with its stored width, where it has one, raised to the written one
abbrev pub settle_body : Body → Body
settle_body (Delimited width bytes) = Delimited (written_width width bytes) bytes
settle_body body = body

-- a field with the stored width of its body raised to the written one
abbrev pub settle_field : Field → Field
settle_field f = record f { body = settle_body f.body }

-- a feature with its stored width and those of its fields raised to the written ones
abbrev pub settle_feature : Feature → Feature
settle_feature f = record f { width = written_width f.width (flat_map field_bytes f.fields); fields = map settle_field f.fields }

-- an item of a layer with its stored widths raised to the written ones
abbrev pub settle_layer_item : LayerItem → LayerItem
settle_layer_item (OfFeature feature) = OfFeature (settle_feature feature)
settle_layer_item (PlainInLayer field) = PlainInLayer (settle_field field)

-- a layer with its stored width and those in its items raised to the written ones
abbrev pub settle_layer : Layer → Layer
settle_layer l = record l { width = written_width l.width (flat_map layer_item_bytes l.items); items = map settle_layer_item l.items }

-- an item of a tile with its stored widths raised to the written ones
abbrev pub settle_tile_item : TileItem → TileItem
settle_tile_item (OfLayer layer) = OfLayer (settle_layer layer)
settle_tile_item (PlainInTile field) = PlainInTile (settle_field field)

-- a document with each stored width raised to the written one
abbrev pub settle : Document → Document
settle document = map settle_tile_item document

-- ---- each length is a number of 64 bits

-- there are fewer than 2 ^ 64 bytes
abbrev pub IsShort : List ℕ → Type 0
IsShort bytes = length bytes < 2 ^ 64

-- the length of a body, where it has one, is below 2 ^ 64
abbrev pub IsShortBody : Body → Type 0
IsShortBody (Delimited width bytes) = IsShort bytes
IsShortBody body = Unit {0}

-- the length of a field, where it has one, is below 2 ^ 64
abbrev pub IsShortField : Field → Type 0
IsShortField f = IsShortBody f.body

-- the lengths of a feature and of its fields are below 2 ^ 64
pub record IsShortFeature (f : Feature) : Type 0 where
  pub own : IsShort (flat_map field_bytes f.fields)
  pub fields : AllByRecursion IsShortField f.fields

-- the lengths in an item of a layer are below 2 ^ 64
abbrev pub IsShortLayerItem : LayerItem → Type 0
IsShortLayerItem (OfFeature feature) = IsShortFeature feature
IsShortLayerItem (PlainInLayer field) = IsShortField field

-- the lengths of a layer and in its items are below 2 ^ 64
pub record IsShortLayer (l : Layer) : Type 0 where
  pub own : IsShort (flat_map layer_item_bytes l.items)
  pub items : AllByRecursion IsShortLayerItem l.items

-- the lengths in an item of a tile are below 2 ^ 64
abbrev pub IsShortTileItem : TileItem → Type 0
IsShortTileItem (OfLayer layer) = IsShortLayer layer
IsShortTileItem (PlainInTile field) = IsShortField field

-- each length in a document is below 2 ^ 64
abbrev pub HasShortLengths : Document → Type 0
HasShortLengths document = AllByRecursion IsShortTileItem document

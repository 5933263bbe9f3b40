-- Which document a file opens as.
use Rattle.std.specs.Prelude.{◌≡◌, ◌≢◌, ℕ, ◌<◌, ◌≤◌, List, length, take}
use Rattle.std.specs.List.{flat_map, AllByRecursion}
use Rattle.mvt_document.specs.declared.TheConstants.{MAX_FILE}
use Rattle.mvt_document.specs.Plain.{Field, Feature, LayerItem, OfFeature, PlainInLayer, Layer, TileItem, OfLayer, PlainInTile, Document}
use Rattle.mvt_document.specs.Shape.{IsSpelling, IsWidth}
use Rattle.mvt_document.specs.Wire.{field_bytes, layer_item_bytes, bytes_of}
use Rattle.mvt_document.specs.Groups.{IsNumber, IsFieldWith, IsGroup, StoresField}

-- ---- what holds of each value of the types

-- a valid field: a tag that can be spelled and names the wire type of the body, and a valid body, which is a group of
-- the tag's number if it is a group (guide, Message Structure)
abbrev pub IsField : Field → Type 0
IsField = IsFieldWith IsGroup

-- a valid feature: its tag is 18, field 2 with wire type LEN, the stored width is 1 to 10, and its fields are valid
-- (tiles 4.2)
pub record IsFeature (f : Feature) : Type 0 where
  pub number : IsNumber f.tag
  pub tag : f.tag.value ≡ 18
  pub width : IsWidth f.width
  pub fields : AllByRecursion IsField f.fields

-- a valid item of a layer: a valid feature, or a valid field whose tag is not that of a feature (tiles 4.1)
abbrev pub IsLayerItem : LayerItem → Type 0
IsLayerItem (OfFeature feature) = IsFeature feature
IsLayerItem (PlainInLayer field) = IsField field × (field.tag.value ≢ 18)

-- a valid layer: its tag is 26, field 3 with wire type LEN, the stored width is 1 to 10, and its items are valid
-- (tiles 4.1)
pub record IsLayer (l : Layer) : Type 0 where
  pub number : IsNumber l.tag
  pub tag : l.tag.value ≡ 26
  pub width : IsWidth l.width
  pub items : AllByRecursion IsLayerItem l.items

-- a valid item of a tile: a valid layer, or a valid field whose tag is not that of a layer (tiles 4.1)
abbrev pub IsTileItem : TileItem → Type 0
IsTileItem (OfLayer layer) = IsLayer layer
IsTileItem (PlainInTile field) = IsField field × (field.tag.value ≢ 26)

-- a valid document: all its items are valid (tiles 4.1)
abbrev pub IsDocument : Document → Type 0
IsDocument document = AllByRecursion IsTileItem document

-- ---- each length is spelled in its stored width

-- the lengths of a feature and of its fields can be spelled in their stored widths
pub record StoresFeature (f : Feature) : Type 0 where
  pub own : IsSpelling (length (flat_map field_bytes f.fields)) f.width
  pub fields : AllByRecursion StoresField f.fields

-- the lengths in an item of a layer can be spelled in their stored widths
abbrev pub StoresLayerItem : LayerItem → Type 0
StoresLayerItem (OfFeature feature) = StoresFeature feature
StoresLayerItem (PlainInLayer field) = StoresField field

-- the lengths of a layer and in its items can be spelled in their stored widths
pub record StoresLayer (l : Layer) : Type 0 where
  pub own : IsSpelling (length (flat_map layer_item_bytes l.items)) l.width
  pub items : AllByRecursion StoresLayerItem l.items

-- the lengths in an item of a tile can be spelled in their stored widths
abbrev pub StoresTileItem : TileItem → Type 0
StoresTileItem (OfLayer layer) = StoresLayer layer
StoresTileItem (PlainInTile field) = StoresField field

-- a valid document in which each length can be spelled in its stored width
pub record IsSettled (document : Document) : Type 0 where
  pub valid : IsDocument document
  pub stored : AllByRecursion StoresTileItem document

-- the file has at most 67,108,864 bytes, which are the bytes of this document, and the document is settled
pub record OpensAs (file : List ℕ) (document : Document) : Type 0 where
  pub within : length file ≤ MAX_FILE
  pub settled : IsSettled document
  pub spelled : bytes_of document ≡ file

-- the file opens as no document
abbrev pub OpensAsNothing : List ℕ → Type 0
OpensAsNothing file = (document : Document) → OpensAs file document → ⊥

-- `place` is the length of the longest prefix of the file that opens as a document
pub record IsPlace (file : List ℕ) (place : ℕ) : Type 0 where
  pub within : place ≤ length file
  pub document : Document
  pub opens : OpensAs (take place file) document
  pub longest : (n : ℕ) (longer : Document) → place < n → n ≤ length file → OpensAs (take n file) longer → ⊥

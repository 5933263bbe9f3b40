-- A tile as plain values: lists and numbers, with nothing about where they are in memory.
use Rattle.std.specs.Prelude.{ℕ, List}

-- a number, and how many bytes its spelling takes (guide, Base 128 Varints)
pub record Number : Type 0 where
  pub value : ℕ
  pub width : ℕ

-- what follows a tag, by its wire type: VARINT, I64, I32, LEN with the stored width of its length, or SGROUP with all
-- bytes after the start tag, including the end tag (guide, Message Structure)
pub data Body : Type 0 where
  Spelled : (number : Number) → Body
  Eight : (bytes : List ℕ) → Body
  Four : (bytes : List ℕ) → Body
  Delimited : (width : ℕ) (bytes : List ℕ) → Body
  Group : (bytes : List ℕ) → Body

-- a tag, and the body after it (guide, Message Structure)
pub record Field : Type 0 where
  pub tag : Number
  pub body : Body

-- the tag of a feature, the stored width of its length, and its fields (tiles 4.2)
pub record Feature : Type 0 where
  pub tag : Number
  pub width : ℕ
  pub fields : List Field

-- an item of a layer: a feature, or any other field (tiles 4.1)
pub data LayerItem : Type 0 where
  OfFeature : (feature : Feature) → LayerItem
  PlainInLayer : (field : Field) → LayerItem

-- the tag of a layer, the stored width of its length, and its items (tiles 4.1)
pub record Layer : Type 0 where
  pub tag : Number
  pub width : ℕ
  pub items : List LayerItem

-- an item of a tile: a layer, or any other field (tiles 4.1)
pub data TileItem : Type 0 where
  OfLayer : (layer : Layer) → TileItem
  PlainInTile : (field : Field) → TileItem

-- a tile: the list of its items (tiles 4.1)
abbrev pub Document : Type 0
Document = List TileItem

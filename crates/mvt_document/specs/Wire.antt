-- The bytes of a document. A length is written in its stored width, or in its least width where that is greater.
use Rattle.std.specs.Prelude.{ℕ, zero, suc, ◌+◌, ◌/◌, ◌%◌, max, List, [], ◌∷◌, ◌++◌, length, nat_lt, if◌then◌else◌}
use Rattle.std.specs.List.{flat_map}
use Rattle.mvt_document.specs.Plain.{Number, Body, Spelled, Eight, Four, Delimited, Group, Field, Feature, LayerItem, OfFeature, PlainInLayer, Layer, TileItem, OfLayer, PlainInTile, Document}

-- a number spelled in a given width: a byte for each 7 bits, the lowest first, with the top bit set on all but the last
-- (guide, Base 128 Varints)
unfoldable pub spell : ℕ → ℕ → List ℕ
spell value zero = []
spell value (suc zero) = (value % 128) ∷ []
spell value (suc (suc width)) = (value % 128 + 128) ∷ spell (value / 128) (suc width)

-- the least width of at least 1 in which a number can be spelled, where that is at most one more than the number given
-- first (guide, Base 128 Varints)
unfoldable pub width_within : ℕ → ℕ → ℕ
width_within zero value = 1
width_within (suc more) value = if nat_lt value 128 then 1 else suc (width_within more (value / 128))

-- the least width of at least 1 in which a number below 2 ^ 70 can be spelled (guide, Base 128 Varints)
abbrev pub minimal_width : ℕ → ℕ
minimal_width value = width_within 9 value

-- the bytes of a number in its width (guide, Base 128 Varints)
abbrev pub spelling : Number → List ℕ
spelling n = spell n.value n.width

-- a number in its shortest spelling (guide, Base 128 Varints)
abbrev pub minimal : ℕ → Number
minimal value = record { value = value; width = minimal_width value }

-- the bytes of a number in its shortest spelling (guide, Base 128 Varints)
abbrev pub shortest : ℕ → List ℕ
shortest value = spell value (minimal_width value)

-- the length of the bytes, in the stored width or in its least width where that is greater, and then the bytes
-- (guide, Length-Delimited Records)
abbrev pub delimited : ℕ → List ℕ → List ℕ
delimited width bytes = spell (length bytes) (max width (minimal_width (length bytes))) ++ bytes

-- the bytes of a body: a number in its width, a length and that many bytes, or the bytes as they are
-- (guide, Message Structure)
abbrev pub body_bytes : Body → List ℕ
body_bytes (Spelled number) = spelling number
body_bytes (Eight bytes) = bytes
body_bytes (Four bytes) = bytes
body_bytes (Delimited width bytes) = delimited width bytes
body_bytes (Group bytes) = bytes

-- the bytes of a field: its tag, then its body (guide, Message Structure)
abbrev pub field_bytes : Field → List ℕ
field_bytes f = spelling f.tag ++ body_bytes f.body

-- the bytes of a feature: its tag, then the length and the bytes of its fields, one after the other
-- (guide, Message Structure)
abbrev pub feature_bytes : Feature → List ℕ
feature_bytes f = spelling f.tag ++ delimited f.width (flat_map field_bytes f.fields)

-- the bytes of an item of a layer: those of the feature or of the field (guide, Message Structure)
abbrev pub layer_item_bytes : LayerItem → List ℕ
layer_item_bytes (OfFeature feature) = feature_bytes feature
layer_item_bytes (PlainInLayer field) = field_bytes field

-- the bytes of a layer: its tag, then the length and the bytes of its items, one after the other
-- (guide, Message Structure)
abbrev pub layer_bytes : Layer → List ℕ
layer_bytes l = spelling l.tag ++ delimited l.width (flat_map layer_item_bytes l.items)

-- the bytes of an item of a tile: those of the layer or of the field (guide, Message Structure)
abbrev pub tile_item_bytes : TileItem → List ℕ
tile_item_bytes (OfLayer layer) = layer_bytes layer
tile_item_bytes (PlainInTile field) = field_bytes field

-- the bytes of a document: those of its items, one after the other (guide, Message Structure)
abbrev pub bytes_of : Document → List ℕ
bytes_of document = flat_map tile_item_bytes document

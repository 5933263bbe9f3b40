-- The kind of an item, whether it has an id, and the hash of that.
use Rattle.std.specs.Prelude.{ℕ, ◌/◌, ◌==◌, Bool, true, false, map, is_some, if◌then◌else◌}
use Rattle.mvt_document.specs.declared.body.Body.{Body}
use Rattle.mvt_document.specs.declared.body.Body.TheVariants as in_body
use Rattle.mvt_document.specs.declared.field.FieldParts.{FieldParts as Field}
use Rattle.mvt_document.specs.declared.document.LayerItem.{LayerItem}
use Rattle.mvt_document.specs.declared.document.LayerItem.TheVariants as in_layer
use Rattle.mvt_document.specs.declared.document.TileItem.{TileItem}
use Rattle.mvt_document.specs.declared.document.TileItem.TheVariants as in_tile
use Rattle.mvt_document.specs.FieldStands.{field_of}
use Rattle.mvt_document.specs.Hashes.{hash_of}
use Rattle.mvt_document.specs.Values.{last_value}
use Rattle.mvt_document.specs.declared.run.Kind.{Kind}
use Rattle.mvt_document.specs.declared.run.Kind.TheVariants as kind

-- the body is one of a length and that many bytes
abbrev pub is_delimited : Body → Bool
is_delimited (in_body.Bytes width bytes) = true
is_delimited body = false

-- the field is a LEN field of this number
abbrev pub is_delimited_field : ℕ → Field → Bool
is_delimited_field number field = if field.tag.value / 8 == number then is_delimited field.body else false

-- the item of a layer is a feature
abbrev pub is_feature : LayerItem → Bool
is_feature (in_layer.Feature feature) = true
is_feature (in_layer.Plain field) = false

-- the item of a layer is a LEN field of this number
abbrev pub is_entry : ℕ → LayerItem → Bool
is_entry number (in_layer.Feature feature) = false
is_entry number (in_layer.Plain field) = is_delimited_field number field

-- the item of a layer is of this kind (tiles 4.1)
abbrev pub in_layer_of_kind : Kind → LayerItem → Bool
in_layer_of_kind kind.Name item = is_entry 1 item
in_layer_of_kind kind.Message item = is_feature item
in_layer_of_kind kind.Key item = is_entry 3 item
in_layer_of_kind kind.Value item = is_entry 4 item

-- the item of a tile is a layer
abbrev pub is_layer : TileItem → Bool
is_layer (in_tile.Layer layer) = true
is_layer (in_tile.Plain field) = false

-- the item of a tile is of this kind; no tile has names, keys or values (tiles 4.1)
abbrev pub in_tile_of_kind : Kind → TileItem → Bool
in_tile_of_kind kind.Name item = false
in_tile_of_kind kind.Message item = is_layer item
in_tile_of_kind kind.Key item = false
in_tile_of_kind kind.Value item = false

-- the item of a layer is a feature that has an id (tiles 4.2)
abbrev pub layer_item_has_id : LayerItem → Bool
layer_item_has_id (in_layer.Feature feature) = is_some (last_value 1 (map field_of feature.fields.items))
layer_item_has_id (in_layer.Plain field) = false

-- the hash of the id of a feature (tiles 4.2); 0 for another field of a layer
abbrev pub layer_item_hash : LayerItem → ℕ
layer_item_hash (in_layer.Feature feature) = hash_of (last_value 1 (map field_of feature.fields.items))
layer_item_hash (in_layer.Plain field) = 0

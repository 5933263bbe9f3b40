-- A layer and an id field have at least two bytes.
use Rattle.std.proofs.Common.{◌≡◌, ℕ, ◌/◌, ◌≤◌, ◌==◌, Bool, true, false, cond, Option, None, is_some, List, length, length-append, map, arith}
use Rattle.std.specs.List.{flat_map}
use Rattle.mvt_document.specs.Wire.{spell, body_bytes, field_bytes, layer_item_bytes, tile_item_bytes}
use Rattle.mvt_document.specs.Bodies.{body_of}
use Rattle.mvt_document.specs.Stands.{field_of, layer_item_of, tile_item_of}
use Rattle.mvt_document.specs.declared.Body.{Body}
use Rattle.mvt_document.specs.declared.Body.TheVariants.{Number, Eight, Four, Bytes, Group}
use Rattle.mvt_messages.specs.Views.{value_of}
use Rattle.mvt_document.specs.declared.Field.{Field}
use Rattle.mvt_document.specs.declared.TileItem.{TileItem}
use Rattle.mvt_document.specs.declared.TileItem.TheVariants as in_tile
use Rattle.mvt_meaning.specs.Meaning.{is_id}
use Rattle.mvt_edit_steps.proofs.Heavy.{number_has_bytes, tag_and_content}
use Rattle.mvt_edit_lists.proofs.Kept.{goes}

pub layer_has_bytes : (names : List (List ℕ)) (item : TileItem) → goes names (tile_item_of item) ≡ true → 2 ≤ length (tile_item_bytes (tile_item_of item))
layer_has_bytes names (in_tile.Layer layer) out = tag_and_content layer.tag.value layer.tag.width layer.width (flat_map layer_item_bytes (map layer_item_of layer.items.items)) layer.tag.spelled
layer_has_bytes names (in_tile.Plain field) out = absurd cc

value_has_bytes : (body : Body) → is_some (value_of (body_of body)) ≡ true → 1 ≤ length (body_bytes (body_of body))
value_has_bytes (Number number) some = number_has_bytes number
value_has_bytes (Eight bytes) some = absurd cc
value_has_bytes (Four bytes) some = absurd cc
value_has_bytes (Bytes width bytes) some = absurd cc
value_has_bytes (Group bytes) some = absurd cc

some_of : {A : Type 0} (b : Bool) (o : Option A) → is_some (cond b o None) ≡ true → is_some o ≡ true
some_of true o some = some
some_of false o some = absurd cc

pub id_has_bytes : (field : Field) → is_id (field_of field) ≡ true → 2 ≤ length (field_bytes (field_of field))
id_has_bytes field id =
    let body = value_has_bytes field.body (some_of (field.tag.value / 8 == 1) (value_of (body_of field.body)) id) in
    omega (arith, body, number_has_bytes field.tag, length-append (spell field.tag.value field.tag.width) (body_bytes (body_of field.body)))

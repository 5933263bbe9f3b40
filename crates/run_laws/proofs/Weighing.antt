-- Valid items have at least two bytes: a tag has one, and so has a body. So a layer has few keys and values.
use Rattle.std.proofs.Common.{◌≡◌, ℕ, zero, suc, ◌*◌, ◌/◌, ◌≤◌, Option, Some, None, List, [], ◌∷◌, ◌++◌, length, length-append, refl, ap, arith}
use Rattle.std.specs.List.{AllByRecursion, cons_option, filter_map, flat_map}
use Rattle.std.specs.Option.{IsSomeAnd}
use Rattle.std.proofs.lemmas.List.Sums.{sum_by-cons}
use Rattle.mvt_document.specs.declared.TheConstants.{MAX_FILE, MAX_GROUPS}
use Rattle.mvt_document.specs.Plain.{Number, Body, Spelled, Eight, Four, Delimited, Group, LayerItem, OfFeature, PlainInLayer, Layer, TileItem, OfLayer, PlainInTile, Document}
use Rattle.mvt_document.specs.Wire.{spelling, delimited, body_bytes, field_bytes, layer_item_bytes, tile_item_bytes, bytes_of}
use Rattle.mvt_document.specs.Groups.{IsNumber, IsBodyWith, IsGroupWithin, IsGroup}
use Rattle.mvt_document.specs.Opens.{IsLayerItem, IsLayer, IsTileItem}
use Rattle.mvt_document.proofs.Spelling.{length-spell, spelling_some}
use Rattle.mvt_document.specs.Lists.{CanSplice}
use Rattle.mvt_document.proofs.Sizes.{delimited_some, length-message}
use Rattle.mvt_messages.specs.Views.{plain_in, plain_fields, content_in, contents, key_field, value_field, layers}
use Rattle.mvt_change.specs.Changes.{Place, OfTheTile, OfTheLayer, OfTheFeature, ItemAt, Step, SpliceStep, MoveStep, list_at, IsItemAt, item_bytes, go_step, FitsStep, step_weight}
use Rattle.run_laws.specs.HistoryLaws.{FieldWeighs, LayerItemWeighs, TileItemWeighs, HasFewKeys, LayersHaveFewKeys, NothingPut, put_count}

number_weighs : (n : Number) → IsNumber n → 1 ≤ length (spelling n)
number_weighs n valid = omega (arith, length-spell n.value n.width, spelling_some n.value n.width valid)

group_weighs : (levels number : ℕ) (bytes : List ℕ) → IsGroupWithin levels number bytes → 1 ≤ length bytes
unfolding IsGroupWithin
group_weighs zero number bytes valid = absurd valid
group_weighs (suc levels) number bytes valid =
    let end = number_weighs valid.last valid.ends.spelled in
    let whole = ap length valid.spelled in
    omega (arith, end, whole, length-append (flat_map field_bytes valid.fields) (spelling valid.last))

body_weighs : (number : ℕ) (body : Body) → IsBodyWith IsGroup number body → 1 ≤ length (body_bytes body)
body_weighs number (Spelled value) valid = number_weighs value valid
body_weighs number (Eight bytes) valid = omega (arith, valid)
body_weighs number (Four bytes) valid = omega (arith, valid)
body_weighs number (Delimited width bytes) valid = delimited_some width bytes
body_weighs number (Group bytes) valid = group_weighs MAX_GROUPS number bytes valid

pub field_weighs : FieldWeighs
field_weighs field valid =
    let tag = number_weighs field.tag valid.number in
    let body = body_weighs (field.tag.value / 8) field.body valid.body in
    omega (arith, tag, body, length-append (spelling field.tag) (body_bytes field.body))

message_weighs : (tag : Number) (width : ℕ) (bytes : List ℕ) → IsNumber tag → 2 ≤ length (spelling tag ++ delimited width bytes)
message_weighs tag width bytes valid =
    omega (arith, number_weighs tag valid, delimited_some width bytes, length-append (spelling tag) (delimited width bytes))

pub layer_item_weighs : LayerItemWeighs
layer_item_weighs (OfFeature feature) valid = message_weighs feature.tag feature.width (flat_map field_bytes feature.fields) valid.number
layer_item_weighs (PlainInLayer field) valid = field_weighs field valid.0

pub tile_item_weighs : TileItemWeighs
tile_item_weighs (OfLayer layer) valid = message_weighs layer.tag layer.width (flat_map layer_item_bytes layer.items) valid.number
tile_item_weighs (PlainInTile field) valid = field_weighs field valid.0

-- ---- a list of valid items has at least twice as many bytes as items

twice_within : {A : Type 0} (bytes : A → List ℕ) (P : A → Type 0) → ((x : A) → P x → 2 ≤ length (bytes x)) → (items : List A) → AllByRecursion P items → 2 * length items ≤ length (flat_map bytes items)
twice_within bytes P weighs [] valid = omega arith
twice_within bytes P weighs (x ∷ items) valid =
    omega (arith, weighs x valid.0, twice_within bytes P weighs items valid.1, length-append (bytes x) (flat_map bytes items))

valid_of : {A : Type 0} (P : A → Type 0) (index taken : ℕ) (put : List A) (o : Option (List A)) → IsSomeAnd o (CanSplice P index taken put) → AllByRecursion P put
valid_of P index taken put None can = absurd can
valid_of P index taken put (Some items) can = can.valid_put

item_weighs : (place : Place) (item : ItemAt place) → IsItemAt place item → 2 ≤ length (item_bytes place item)
item_weighs OfTheTile item valid = tile_item_weighs item valid
item_weighs (OfTheLayer layer) item valid = layer_item_weighs item valid
item_weighs (OfTheFeature layer at) field valid = field_weighs field valid

step_puts_nothing : (step : Step) (document : Document) → FitsStep step document → step_weight step ≡ 0 → put_count step ≡ 0
step_puts_nothing (SpliceStep place index taken put) document fits nothing =
    omega (arith, nothing, twice_within (item_bytes place) (IsItemAt place) (item_weighs place) put (valid_of (IsItemAt place) index taken put (list_at place document) fits))
step_puts_nothing (MoveStep place from to) document fits nothing = refl

pub nothing_put : NothingPut
nothing_put [] document fits nothing = tt
nothing_put (step ∷ change) document fits nothing =
    let sum = sum_by-cons step_weight step change in
    (step_puts_nothing step document fits.0 (omega (arith, sum, nothing)), nothing_put change (go_step step document) fits.1 (omega (arith, sum, nothing)))

-- ---- keys and values

few_picked : {A B : Type 0} (pick : A → Option B) (items : List A) → length (filter_map pick items) ≤ length items
few_picked pick [] = omega arith
few_picked {A} {B} pick (x ∷ items) = next (pick x) (few_picked pick items)
  where
    next : (found : Option B) → length (filter_map pick items) ≤ length items → length (cons_option found (filter_map pick items)) ≤ length (x ∷ items)
    next None few = omega arith
    next (Some y) few = omega arith

-- a layer has no more LEN fields of a number than it has items
few_contents : (number : ℕ) (items : List LayerItem) → length (contents number (plain_fields items)) ≤ length items
few_contents number items = omega (arith, few_picked (content_in number) (plain_fields items), few_picked plain_in items)

layer_has_few_keys : (layer : Layer) → IsLayer layer → length (tile_item_bytes (OfLayer layer)) ≤ MAX_FILE → HasFewKeys layer
layer_has_few_keys layer valid within =
    let items = layer.items in
    let bytes = flat_map layer_item_bytes items in
    let whole : length bytes ≤ MAX_FILE = omega (arith, length-message layer.tag.value layer.tag.width layer.width bytes) in
    let few = twice_within layer_item_bytes IsLayerItem layer_item_weighs items valid.items in
    record { few_keys = omega (arith, few_contents key_field items); few_values = omega (arith, few_contents value_field items) }

pub layers_have_few_keys : LayersHaveFewKeys
layers_have_few_keys [] fits = tt
layers_have_few_keys (item ∷ items) fits =
    let both = length-append (tile_item_bytes item) (bytes_of items) in
    let others = layers_have_few_keys items (record { valid = fits.valid.1; within = omega (arith, both, fits.within) }) in
    first item fits.valid.0 (omega (arith, both, fits.within)) others
  where
    first : (item : TileItem) → IsTileItem item → length (tile_item_bytes item) ≤ MAX_FILE → AllByRecursion HasFewKeys (layers items) → AllByRecursion HasFewKeys (layers (item ∷ items))
    first (OfLayer layer) valid within others = (layer_has_few_keys layer valid within, others)
    first (PlainInTile field) valid within others = others

-- What the messages of a tile say.
use Rattle.std.specs.Prelude.{ℕ, ◌/◌, ◌==◌, Bool, false, List, [], ◌∷◌, Option, Some, None, Result, Ok, Err, map, filter, if◌then◌else◌}
use Rattle.std.specs.List.{filter_map, last_or, enumerate_from}
use Rattle.std.specs.Option.{option_map_or, unwrap_or}
use Rattle.std.specs.Str.{bytes_eq}
pub use Rattle.mvt_document.specs.Values.{last_value, value_in, value_of}
use Rattle.mvt_document.specs.Plain.{Body, Delimited, Field, Feature, LayerItem, OfFeature, PlainInLayer, Layer, TileItem, OfLayer, PlainInTile, Document}

-- ---- the fields of a message

-- the content of a LEN body; none for another body (guide, Message Structure)
abbrev pub content_of : Body → Option (List ℕ)
content_of (Delimited width bytes) = Some bytes
content_of body = None

-- the content of a LEN field of this number; none for another field (guide, Message Structure)
abbrev pub content_in : ℕ → Field → Option (List ℕ)
content_in number field = if field.tag.value / 8 == number then content_of field.body else None

-- the contents of the LEN fields of this number, in order (guide, Repeated Elements)
abbrev pub contents : ℕ → List Field → List (List ℕ)
contents number fields = filter_map (content_in number) fields

-- ---- the layers of a tile: section 4.1

-- the layer that an item of a tile is, or none (tiles 4.1)
abbrev pub layer_in : TileItem → Option Layer
layer_in (OfLayer layer) = Some layer
layer_in (PlainInTile field) = None

-- the layers of a tile, in order (tiles 4.1)
abbrev pub layers : Document → List Layer
layers document = filter_map layer_in document

-- the field that an item of a layer is; none where it is a feature (tiles 4.1)
abbrev pub plain_in : LayerItem → Option Field
plain_in (OfFeature feature) = None
plain_in (PlainInLayer field) = Some field

-- the fields of a layer other than its features, in order (tiles 4.1)
abbrev pub plain_fields : List LayerItem → List Field
plain_fields items = filter_map plain_in items

-- the name of a layer: the content of its last LEN field of number 1, or none (tiles 4.1)
abbrev pub name_of : Layer → Option (List ℕ)
name_of layer = last_or None (contents 1 (plain_fields layer.items))

-- the version of a layer: the value of its last VARINT field of number 15, or 1 (tiles 4.1)
abbrev pub version_of : Layer → ℕ
version_of layer = unwrap_or (last_value 15 (plain_fields layer.items)) 1

-- the extent of a layer: the value of its last VARINT field of number 5, or 4096 (tiles 4.1)
abbrev pub extent_of : Layer → ℕ
extent_of layer = unwrap_or (last_value 5 (plain_fields layer.items)) 4096

-- the number of the fields of a layer that are its keys (tiles 4.1)
abbrev pub key_field : ℕ
key_field = 3

-- the number of the fields of a layer that are its values (tiles 4.1)
abbrev pub value_field : ℕ
value_field = 4

-- the keys of a layer: the contents of its LEN fields of that number, in order (tiles 4.1, 4.4)
abbrev pub keys : Layer → List (List ℕ)
keys layer = contents key_field (plain_fields layer.items)

-- the values of a layer, as bytes: the contents of its LEN fields of that number, in order (tiles 4.1, 4.4)
abbrev pub values : Layer → List (List ℕ)
values layer = contents value_field (plain_fields layer.items)

-- ---- the features of a layer: section 4.2

-- the feature that an item of a layer is, or none (tiles 4.2)
abbrev pub feature_in : LayerItem → Option Feature
feature_in (OfFeature feature) = Some feature
feature_in (PlainInLayer field) = None

-- the features among the items of a layer, in order (tiles 4.2)
abbrev pub features_in : List LayerItem → List Feature
features_in items = filter_map feature_in items

-- the features of a layer, in order (tiles 4.2)
abbrev pub features : Layer → List Feature
features layer = features_in layer.items

-- the id of a feature: the value of its last VARINT field of number 1, or none (tiles 4.2)
abbrev pub id_of : Feature → Option ℕ
id_of feature = last_value 1 feature.fields

-- the kind of a feature: the value of its last VARINT field of number 3, or 0 (tiles 4.2)
abbrev pub kind_of : Feature → ℕ
kind_of feature = unwrap_or (last_value 3 feature.fields) 0

-- ---- selection

-- the ordinals of the items that pass the test, in order
abbrev pub ordinals_of : {A : Type 0} → (A → Bool) → List A → List ℕ
ordinals_of {A} passes items = map (λ p. p.0) (filter (λ (p : ℕ × A). passes p.1) (enumerate_from 0 items))

-- the item if there is exactly one; else the error for none, or the error for several
abbrev pub the_one : {A E : Type 0} → E → E → List A → Result A E
the_one none several [] = Err none
the_one none several (item ∷ []) = Ok item
the_one none several (item ∷ next ∷ more) = Err several

-- the layer has this name (tiles 4.1)
abbrev pub is_named : List ℕ → Layer → Bool
is_named name layer = option_map_or (bytes_eq name) (name_of layer) false

-- the feature has this id (tiles 4.2)
abbrev pub has_id : ℕ → Feature → Bool
has_id id feature = option_map_or (λ found. found == id) (id_of feature) false

-- The tags of features, and the keys of a layer, where commands change them.
use Rattle.std.specs.Prelude.{ℕ, ◌==◌, Bool, true, false, ◌||◌, not, List, [], ◌∷◌, ◌++◌, length, map, filter, slice_get, Option, Some, None, is_some, slice_index_or, if◌then◌else◌}
use Rattle.std.specs.List.{flat_map, last_or, list_any}
use Rattle.std.specs.Option.{option_map_or}
use Rattle.std.specs.Str.{bytes_eq}
use Rattle.mvt_document.specs.Plain.{Body, Delimited, Field, LayerItem, OfFeature, PlainInLayer, Layer}
use Rattle.mvt_document.specs.Places.{in_feature}
use Rattle.mvt_document.specs.Wire.{shortest}
use Rattle.mvt_messages.specs.Numbers.{numbers}
use Rattle.mvt_renumber.specs.Renumbering.{renumber}
use Rattle.mvt_messages.specs.Attributes.{pairs_in, pairs_of}
use Rattle.mvt_messages.specs.Views.{content_in, contents, features, key_field, ordinals_of, plain_fields, value_field, value_in}
use Rattle.mvt_meaning.specs.Decided.{renumbered_fields}
use Rattle.mvt_meaning.specs.Fields.{new_content, with_text}
use Rattle.mvt_meaning.specs.Ordinals.{change_last, change_nth, count}
use Rattle.mvt_meaning.specs.Selection.{is_feature}

-- ---- the tags of a feature: field 2, VARINT or LEN

-- the field is a tags field: a VARINT or LEN field of number 2, whatever it packs (tiles 4.2)
abbrev pub is_tags : Field → Bool
is_tags field = is_some (value_in 2 field) || is_some (content_in 2 field)

-- the fields of a feature without its tags fields (tiles 4.2)
abbrev pub without_tags : List Field → List Field
without_tags fields = filter (λ field. not (is_tags field)) fields

-- the items of a layer, each feature without its tags fields (tiles 4.2)
abbrev pub untagged : List LayerItem → List LayerItem
untagged items = map (in_feature without_tags) items

-- the tags fields of the features of a layer, in order (tiles 4.2)
abbrev pub tags_fields : Layer → List Field
tags_fields layer = flat_map (λ feature. filter is_tags feature.fields) (features layer)

-- ---- the keys of a layer: field 3, LEN

-- the item of a layer is a key of these bytes (tiles 4.1)
abbrev pub is_key : List ℕ → LayerItem → Bool
is_key key (OfFeature feature) = false
is_key key (PlainInLayer field) = option_map_or (bytes_eq key) (content_in key_field field) false

-- the items of a layer, each key of the old bytes with the new ones (tiles 4.1)
abbrev pub renamed_keys : List ℕ → List ℕ → List LayerItem → List LayerItem
renamed_keys old new items = map (λ item. if is_key old item then with_text new item else item) items

-- ---- the pairs of a key

-- the key of this ordinal, among the items of a layer, is these bytes (tiles 4.4)
abbrev pub is_key_at : List LayerItem → List ℕ → ℕ → Bool
is_key_at items key ordinal = option_map_or (bytes_eq key) (slice_get (contents key_field (plain_fields items)) ordinal) false

-- the pairs that the tags among these fields of a feature make in a layer of these items, where they make pairs
-- (tiles 4.4)
abbrev pub pairs_among : List LayerItem → List Field → Option (List (ℕ × ℕ))
pairs_among items fields = pairs_in (length (contents key_field (plain_fields items))) (length (contents value_field (plain_fields items))) (numbers 2 fields)

-- what is decided on each number of these pairs, where the pairs of some keys go and all others stay (tiles 4.4)
abbrev pub without_pairs : (ℕ → Bool) → List (ℕ × ℕ) → List (Option ℕ)
without_pairs goes pairs = flat_map (λ pair. if goes pair.0 then None ∷ None ∷ [] else Some pair.0 ∷ Some pair.1 ∷ []) pairs

-- what is decided on each number of the tags of a feature, where the pairs of a key go; nothing where they make no pairs
-- (tiles 4.4)
abbrev pub removals : List ℕ → List LayerItem → List Field → List (Option ℕ)
removals key items fields = option_map_or (without_pairs (is_key_at items key)) (pairs_among items fields) []

-- the fields of a feature without the pairs of a key, in a layer of these items (tiles 4.4)
abbrev pub without_attribute : List ℕ → List LayerItem → List Field → List Field
without_attribute key items fields = renumber 2 (removals key items fields) fields

-- the items of a layer, each feature without the pairs of a key (tiles 4.4)
abbrev pub excluded : List ℕ → List LayerItem → List LayerItem
excluded key items = map (in_feature (without_attribute key items)) items

-- among the features of some layers, those whose tags make no pairs, in order, each by the ordinal of its layer and its
-- own (tiles 4.4)
abbrev pub unreadable : List (ℕ × (ℕ × Layer)) → List (ℕ × ℕ)
unreadable found = flat_map (λ at. map (λ feature. (at.0, feature)) (ordinals_of (λ feature. not (is_some (pairs_of at.1.1 feature))) (features at.1.1))) found

-- ---- tags fields that differ

-- the tags fields of a feature in which a number goes or gets another value, each with what is decided on its numbers
abbrev pub differing : List (Option ℕ) → List Field → List (List (Option ℕ) × Field)
differing decisions fields = renumbered_fields 2 decisions fields

-- the tags fields of a feature that lose a pair of a key, in a layer of these items, each with what is decided on its
-- numbers (tiles 4.4)
abbrev pub losing : List ℕ → List LayerItem → List Field → List (List (Option ℕ) × Field)
losing key items fields = differing (removals key items fields) fields

-- the same for all features of a layer, in order (tiles 4.4)
abbrev pub losing_in : List ℕ → Layer → List (List (Option ℕ) × Field)
losing_in key layer = flat_map (λ feature. losing key layer.items feature.fields) (features layer)

-- ---- a value for a key

-- the ordinal of the first entry that is these bytes; where there is none, the one that a further entry has
abbrev pub entry_ordinal : List ℕ → List (List ℕ) → ℕ
entry_ordinal bytes entries = slice_index_or (ordinals_of (bytes_eq bytes) entries) 0 (length entries)

-- the ordinal of a key in a layer of these items, or the one that it gets as a further key (tiles 4.1, 4.4)
abbrev pub key_ordinal : List ℕ → List LayerItem → ℕ
key_ordinal key items = entry_ordinal key (contents key_field (plain_fields items))

-- the ordinal of a value in a layer of these items, or the one that it gets as a further value (tiles 4.1, 4.4)
abbrev pub value_ordinal : List ℕ → List LayerItem → ℕ
value_ordinal value items = entry_ordinal value (contents value_field (plain_fields items))

-- the new entry of these bytes with this tag, where there is none yet (tiles 4.1)
abbrev pub missing_entry : ℕ → List ℕ → List (List ℕ) → List LayerItem
missing_entry tag bytes entries = if list_any (bytes_eq bytes) entries then [] else PlainInLayer (new_content tag bytes) ∷ []

-- what a layer of these items lacks of the key and of the value: an entry of field 3, then one of field 4
-- (tiles 4.1, 4.4)
abbrev pub missing_entries : List ℕ → List ℕ → List LayerItem → List LayerItem
missing_entries key value items = missing_entry 26 key (contents key_field (plain_fields items)) ++ missing_entry 34 value (contents value_field (plain_fields items))

-- how many pairs have the key, among those that the tags of these fields make, in a layer of these items (tiles 4.4)
abbrev pub pairs_with : List ℕ → List LayerItem → List Field → ℕ
pairs_with key items fields = option_map_or (count (λ pair. is_key_at items key pair.0)) (pairs_among items fields) 0

-- what is decided on each number of these pairs, where the pairs of some keys get this value, and all others stay
-- (tiles 4.4)
abbrev pub revalued : (ℕ → Bool) → ℕ → List (ℕ × ℕ) → List (Option ℕ)
revalued selects value pairs = flat_map (λ pair. Some pair.0 ∷ Some (if selects pair.0 then value else pair.1) ∷ []) pairs

-- what is decided on each number of the tags of a feature, where the pairs of a key get a value; nothing where they make
-- no pairs (tiles 4.4)
abbrev pub replacements : List ℕ → List ℕ → List LayerItem → List Field → List (Option ℕ)
replacements key value items fields = option_map_or (revalued (is_key_at items key) (value_ordinal value items)) (pairs_among items fields) []

-- the last tags field, where there is one, is a LEN field (guide, Packed Repeated Fields)
abbrev pub is_packed_last : List Field → Bool
is_packed_last fields = option_map_or (λ field. is_some (content_in 2 field)) (last_or None (filter is_tags fields)) false

-- a LEN body with these bytes after its own; another body as it is
abbrev pub with_more : List ℕ → Body → Body
with_more more (Delimited width bytes) = Delimited width (bytes ++ more)
with_more more body = body

-- the field with these bytes after its own, where it is a LEN field
abbrev pub with_more_content : List ℕ → Field → Field
with_more_content more field = record field { body = with_more more field.body }

-- the fields of a feature with these bytes after those of the last tags field, where that is a LEN field, and else in a
-- new one at the end (tiles 4.2)
abbrev pub with_more_tags : List ℕ → List Field → List Field
with_more_tags more fields = if is_packed_last fields then change_last is_tags (with_more_content more) fields else fields ++ new_content 18 more ∷ []

-- the bytes of a further pair: the ordinals of the key and of the value, each in its shortest spelling (tiles 4.4)
abbrev pub new_pair : List ℕ → List ℕ → List LayerItem → List ℕ
new_pair key value items = shortest (key_ordinal key items) ++ shortest (value_ordinal value items)

-- the fields of a feature with this value for the pairs of the key, or with a further pair where there is none, in a
-- layer of these items (tiles 4.2, 4.4)
abbrev pub with_attribute : List ℕ → List ℕ → List LayerItem → List Field → List Field
with_attribute key value items fields =
    if pairs_with key items fields == 0
    then with_more_tags (new_pair key value items) fields
    else renumber 2 (replacements key value items fields) fields

-- the items of a layer with this value for the key in the feature of this ordinal, and at the end what the layer lacks
-- of both (tiles 4.1, 4.4)
abbrev pub attributed : List ℕ → List ℕ → ℕ → List LayerItem → List LayerItem
attributed key value feature items = change_nth is_feature (in_feature (with_attribute key value items)) feature items ++ missing_entries key value items

-- the tags fields of a feature in which a number gets another value, where the pairs of the key get this value, each
-- with what is decided on its numbers (tiles 4.4)
abbrev pub revaluing : List ℕ → List ℕ → List LayerItem → List Field → List (List (Option ℕ) × Field)
revaluing key value items fields = differing (replacements key value items fields) fields

-- Keys and values that no feature uses, where commands remove them.
use Rattle.std.specs.Prelude.{ℕ, zero, suc, ◌+◌, ◌==◌, Bool, true, false, not, List, [], ◌∷◌, map, filter, Option, Some, is_some, if◌then◌else◌}
use Rattle.std.specs.List.{enumerate_from, flat_map, list_any}
use Rattle.std.specs.Option.{option_map_or, unwrap_or}
use Rattle.mvt_document.specs.Plain.{Field, LayerItem, OfFeature, PlainInLayer, Layer}
use Rattle.mvt_document.specs.Places.{in_feature}
use Rattle.mvt_renumber.specs.Renumbering.{renumber}
use Rattle.mvt_messages.specs.Views.{content_in, features, features_in, key_field, value_field}
use Rattle.mvt_meaning.specs.Tagging.{differing, pairs_among}

-- ---- what the features of a layer use

-- the pairs that the tags of the features make in a layer of these items, in order (tiles 4.4)
abbrev pub all_pairs : List LayerItem → List (ℕ × ℕ)
all_pairs items = flat_map (λ feature. unwrap_or (pairs_among items feature.fields) []) (features_in items)

-- a pair of a feature names the key of this ordinal (tiles 4.4)
abbrev pub is_key_used : List LayerItem → ℕ → Bool
is_key_used items ordinal = list_any (λ pair. pair.0 == ordinal) (all_pairs items)

-- a pair of a feature names the value of this ordinal (tiles 4.4)
abbrev pub is_value_used : List LayerItem → ℕ → Bool
is_value_used items ordinal = list_any (λ pair. pair.1 == ordinal) (all_pairs items)

-- each key or value stays, whether a feature uses it or not
abbrev pub is_any : List LayerItem → ℕ → Bool
is_any items ordinal = true

-- ---- a pool in which some entries stay

-- the item of a layer is one of the entries that are LEN fields of this number: a key or a value (tiles 4.1)
abbrev pub is_entry : ℕ → LayerItem → Bool
is_entry number (OfFeature feature) = false
is_entry number (PlainInLayer field) = is_some (content_in number field)

-- those of the items that pass whose ordinals stay, where the first that passes has this ordinal, and all other items
abbrev pub staying : {A : Type 0} → (A → Bool) → (ℕ → Bool) → ℕ → List A → List A
staying passes stays ordinal [] = []
staying passes stays ordinal (x ∷ xs) =
    if passes x
    then (if stays ordinal then x ∷ staying passes stays (ordinal + 1) xs else staying passes stays (ordinal + 1) xs)
    else x ∷ staying passes stays ordinal xs

-- how many ordinals below this one stay: the ordinal that its entry has then
abbrev pub new_ordinal : (ℕ → Bool) → ℕ → ℕ
new_ordinal stays zero = 0
new_ordinal stays (suc ordinal) = new_ordinal stays ordinal + (if stays ordinal then 1 else 0)

-- ---- a layer in which some keys and values stay

-- what is decided on each number of these pairs, where some keys and some values stay: each names what it named
-- (tiles 4.4)
abbrev pub repointed : (ℕ → Bool) → (ℕ → Bool) → List (ℕ × ℕ) → List (Option ℕ)
repointed keys values pairs = flat_map (λ pair. Some (new_ordinal keys pair.0) ∷ Some (new_ordinal values pair.1) ∷ []) pairs

-- the same for the tags of a feature, in a layer of these items; nothing where they make no pairs (tiles 4.4)
abbrev pub new_ordinals : (ℕ → Bool) → (ℕ → Bool) → List LayerItem → List Field → List (Option ℕ)
new_ordinals keys values items fields = option_map_or (repointed keys values) (pairs_among items fields) []

-- the fields of a feature with the new ordinals, in a layer of these items (tiles 4.4)
abbrev pub with_new_ordinals : (ℕ → Bool) → (ℕ → Bool) → List LayerItem → List Field → List Field
with_new_ordinals keys values items fields = renumber 2 (new_ordinals keys values items fields) fields

-- the items of a layer without the keys and the values that do not stay, each number of tags with the new ordinal of
-- what it names (tiles 4.1, 4.4)
abbrev pub with_entries : (ℕ → Bool) → (ℕ → Bool) → List LayerItem → List LayerItem
with_entries keys values items = staying (is_entry value_field) values 0 (staying (is_entry key_field) keys 0 (map (in_feature (with_new_ordinals keys values items)) items))

-- the same, where the items determine which keys and which values stay
abbrev pub compacted : (List LayerItem → ℕ → Bool) → (List LayerItem → ℕ → Bool) → List LayerItem → List LayerItem
compacted keys values items = with_entries (keys items) (values items) items

-- ---- what goes and what differs

-- the tags fields of the features of a layer in which a number gets another value, where some keys and values stay, each
-- with what is decided on its numbers (tiles 4.4)
abbrev pub repointing : (ℕ → Bool) → (ℕ → Bool) → Layer → List (List (Option ℕ) × Field)
repointing keys values layer = flat_map (λ feature. differing (new_ordinals keys values layer.items feature.fields) feature.fields) (features layer)

-- the entries of this number among the items of a layer that do not stay (tiles 4.1)
abbrev pub leaving : ℕ → (ℕ → Bool) → List LayerItem → List LayerItem
leaving number stays items = map (λ entry. entry.1) (filter (λ entry. not (stays entry.0)) (enumerate_from 0 (filter (is_entry number) items)))

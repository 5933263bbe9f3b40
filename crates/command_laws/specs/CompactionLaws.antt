-- Laws of the commands that remove the keys and values that no feature uses, in the words of a tile: what an accepted
-- command makes.
use Rattle.std.specs.Prelude.{◌≡◌, ℕ, ◌<◌, ◌==◌, Bool, true, false, ◌||◌, not, List, [], ◌∷◌, length, map, filter, Option, Some, is_some, Ok, slice_get}
use Rattle.std.specs.List.{enumerate_from, list_any}
use Rattle.std.specs.Option.{option_map_or, unwrap_or}
use Rattle.mvt_document.specs.Plain.{Field, Feature, Layer, Document}
use Rattle.mvt_meaning.specs.Command.{LayersChoice, Command, CompactKeys, CompactValues, Compact}
use Rattle.mvt_messages.specs.Attributes.{attributes, pairs_of}
use Rattle.mvt_messages.specs.Views.{content_in, features, key_field, plain_fields, plain_in, value_field}
use Rattle.mvt_meaning.specs.Tagging.{without_tags}
use Rattle.mvt_meaning.specs.Meaning.{◌>>=◌, applied}
use Rattle.command_laws.specs.AttributeLaws.{FeatureBecomes}
use Rattle.command_laws.specs.ChangedLayers.{ChangesLayers}

-- ---- what is used

-- the ordinal of the key that a pair names (tiles 4.4)
abbrev pub key_of : ℕ × ℕ → ℕ
key_of pair = pair.0

-- the ordinal of the value that a pair names (tiles 4.4)
abbrev pub value_of : ℕ × ℕ → ℕ
value_of pair = pair.1

-- a feature of the layer has a pair that names this ordinal, of a key or of a value as `named` says (tiles 4.4)
abbrev pub is_used : (ℕ × ℕ → ℕ) → Layer → ℕ → Bool
is_used named layer ordinal = list_any (λ feature. list_any (λ pair. named pair == ordinal) (unwrap_or (pairs_of layer feature) [])) (features layer)

-- the field is a LEN field of this number: a key or a value of a layer (tiles 4.1)
abbrev pub is_entry_of : ℕ → Field → Bool
is_entry_of number field = is_some (content_in number field)

-- the keys or the values of a layer, as fields, in order (tiles 4.1)
abbrev pub entries : ℕ → Layer → List Field
entries number layer = filter (is_entry_of number) (plain_fields layer.items)

-- those of some entries whose ordinals are used, in order
abbrev pub used_ones : (ℕ → Bool) → List Field → List Field
used_ones used list = map (λ entry. entry.1) (filter (λ entry. used entry.0) (enumerate_from 0 list))

-- the layer has lost the keys or the values that no feature used: those that were used have stayed as they were, in
-- their order, and each that it has is used (tiles 4.1, 4.4)
pub record LosesUnused (number : ℕ) (named : ℕ × ℕ → ℕ) (old new : Layer) : Type 0 where
  pub stay : entries number new ≡ used_ones (is_used named old) (entries number old)
  pub used : (ordinal : ℕ) → ordinal < length (entries number new) → is_used named new ordinal ≡ true

-- ---- what stays

-- the feature had attributes in the former layer, and has the same in the present one; it has as many fields as it had,
-- with the same tags in their order, and all its fields other than tags are as they were (tiles 4.2, 4.4)
pub record KeepsAttributes (former present : Layer) (old new : Feature) : Type 0 where
  pub found : List (List ℕ × List ℕ)
  pub had : attributes former old ≡ Some found
  pub has : attributes present new ≡ Some found
  pub tags : map (λ field. field.tag) new.fields ≡ map (λ field. field.tag) old.fields
  pub others : without_tags new.fields ≡ without_tags old.fields

-- each feature of the layer keeps its attributes
abbrev pub EachKeepsAttributes : Layer → Layer → Type 0
EachKeepsAttributes old new = (ordinal : ℕ) (former : Feature) → slice_get (features old) ordinal ≡ Some former → (present : Feature) × (slice_get (features new) ordinal ≡ Some present) × FeatureBecomes (KeepsAttributes old new) former present

-- the items of a layer as fields, in order, with `None` in place of each feature (tiles 4.1)
abbrev pub outline : Layer → List (Option Field)
outline layer = map plain_in layer.items

-- the item of an outline is a LEN field of this number: a key or a value (tiles 4.1)
abbrev pub is_entry_in : ℕ → Option Field → Bool
is_entry_in number item = option_map_or (is_entry_of number) item false

-- the first list is what is left of the second where some items have gone, and none has moved
pub data IsLeftOf (A : Type 0) : List A → List A → Type 0 where
  nothing : IsLeftOf A [] []
  stayed : (x : A) {xs ys : List A} → IsLeftOf A xs ys → IsLeftOf A (x ∷ xs) (x ∷ ys)
  gone : (x : A) {xs ys : List A} → IsLeftOf A xs ys → IsLeftOf A xs (x ∷ ys)

-- ---- the commands

-- the layer has lost the keys that no feature used; each feature keeps its attributes, no item has moved, and the
-- features and the fields other than keys stand as they did (tiles 4.1, 4.2, 4.4)
pub record LosesKeys (old new : Layer) : Type 0 where
  pub keys_so : LosesUnused key_field key_of old new
  pub each : EachKeepsAttributes old new
  pub others : filter (λ item. not (is_entry_in key_field item)) (outline new) ≡ filter (λ item. not (is_entry_in key_field item)) (outline old)
  pub unmoved : IsLeftOf (Option Field) (outline new) (outline old)

-- the same for values (tiles 4.1, 4.2, 4.4)
pub record LosesValues (old new : Layer) : Type 0 where
  pub values_so : LosesUnused value_field value_of old new
  pub each : EachKeepsAttributes old new
  pub others : filter (λ item. not (is_entry_in value_field item)) (outline new) ≡ filter (λ item. not (is_entry_in value_field item)) (outline old)
  pub unmoved : IsLeftOf (Option Field) (outline new) (outline old)

-- the same for keys and values (tiles 4.1, 4.2, 4.4)
pub record LosesBoth (old new : Layer) : Type 0 where
  pub keys_so : LosesUnused key_field key_of old new
  pub values_so : LosesUnused value_field value_of old new
  pub each : EachKeepsAttributes old new
  pub others : filter (λ item. not (is_entry_in key_field item || is_entry_in value_field item)) (outline new) ≡ filter (λ item. not (is_entry_in key_field item || is_entry_in value_field item)) (outline old)
  pub unmoved : IsLeftOf (Option Field) (outline new) (outline old)

-- where removing unused keys is accepted, each selected layer loses them, and nothing else differs but what is in the
-- tags fields of its features; in which of these each tag is, and how it is spelled, is left open
abbrev pub CompactKeysCompacts : Type 0
CompactKeysCompacts = (choice : LayersChoice) (old new : Document) → applied (CompactKeys choice) old ≡ Ok new → ChangesLayers choice LosesKeys old new

-- where removing unused values is accepted, each selected layer loses them, and nothing else differs but what is in the
-- tags fields of its features; in which of these each tag is, and how it is spelled, is left open
abbrev pub CompactValuesCompacts : Type 0
CompactValuesCompacts = (choice : LayersChoice) (old new : Document) → applied (CompactValues choice) old ≡ Ok new → ChangesLayers choice LosesValues old new

-- where removing unused keys and values is accepted, each selected layer loses them, and nothing else differs but what
-- is in the tags fields of its features; in which of these each tag is, and how it is spelled, is left open
abbrev pub CompactCompacts : Type 0
CompactCompacts = (choice : LayersChoice) (old new : Document) → applied (Compact choice) old ≡ Ok new → ChangesLayers choice LosesBoth old new

-- where the command is accepted, it is accepted again on the result, and changes nothing
abbrev pub AgainChangesNothing : Command → Type 0
AgainChangesNothing command = (old new : Document) → applied command old ≡ Ok new → applied command new ≡ Ok new

-- removing unused keys and values is removing unused keys, and then unused values: the same tile, or the same refusal
abbrev pub CompactIsBoth : Type 0
CompactIsBoth = (choice : LayersChoice) (old : Document) → applied (Compact choice) old ≡ (applied (CompactKeys choice) old >>= λ between. applied (CompactValues choice) between)

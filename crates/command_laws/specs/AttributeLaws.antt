-- Laws of the commands on attributes, in the words of a tile: what an accepted command makes.
use Rattle.std.specs.Prelude.{◌≡◌, ◌≢◌, ℕ, ◌≤◌, Bool, true, ◌||◌, not, List, [], ◌∷◌, ◌++◌, Some, Ok, map, filter, is_some, option_map, slice_get, if◌then◌else◌}
use Rattle.std.specs.List.{AllByRecursion, list_all, list_any}
use Rattle.std.specs.Str.{bytes_eq}
use Rattle.mvt_document.specs.Plain.{Field, Feature, Layer, Document}
use Rattle.mvt_value.specs.Messages.{encoded_value}
use Rattle.mvt_value.specs.Values.{Value}
use Rattle.mvt_meaning.specs.Command.{LayerChoice, LayersChoice, FeatureChoice, SetAttribute, UnsetAttribute, RenameKey, Exclude, ExcludeAll}
use Rattle.mvt_messages.specs.Attributes.{attributes}
use Rattle.mvt_messages.specs.Views.{content_in, features, key_field, keys, plain_fields, value_field, values}
use Rattle.mvt_meaning.specs.Ordinals.{count}
use Rattle.mvt_meaning.specs.Selection.{feature_positions, selected_feature}
use Rattle.mvt_meaning.specs.Tagging.{is_key, without_tags}
use Rattle.mvt_meaning.specs.Meaning.{applied}
use Rattle.command_laws.specs.Kept.{ChangesFeature, ChangesLayer}
use Rattle.command_laws.specs.ChangedLayers.{ChangesLayers}

-- ---- a renamed key

-- the new key where the key is the old one, and else the key itself (tiles 4.4)
abbrev pub renamed : List ℕ → List ℕ → List ℕ → List ℕ
renamed former present key = if bytes_eq former key then present else key

-- the keys of the layer, and those of the attributes of each feature in it, are the new one where they were the old
-- one; the values, the features, and all items that are neither of these keys are as they were (tiles 4.1, 4.4)
pub record RenamesKey (former present : List ℕ) (old new : Layer) : Type 0 where
  pub keys_so : keys new ≡ map (renamed former present) (keys old)
  pub attributes_so : (feature : Feature) → attributes new feature ≡ option_map (map (λ pair. (renamed former present pair.0, pair.1))) (attributes old feature)
  pub values_stay : values new ≡ values old
  pub features_stay : features new ≡ features old
  pub others : filter (λ item. not (is_key present item)) new.items ≡ filter (λ item. not (is_key former item)) old.items

-- an accepted rename of a key renames it in the selected layer, and nothing but the fields of that key differs; where
-- these stand among the other items, and how their numbers are spelled, is left open
abbrev pub RenameKeyRenames : Type 0
RenameKeyRenames = (choice : LayerChoice) (former present : List ℕ) (old new : Document) → applied (RenameKey choice former present) old ≡ Ok new → ChangesLayer choice (RenamesKey former present) old new

-- ---- a feature

-- the feature has become another in this way, with its tag and its stored width
pub record FeatureBecomes (way : Feature → Feature → Type 0) (former present : Feature) : Type 0 where
  pub tag : present.tag ≡ former.tag
  pub width : present.width ≡ former.width
  pub changed : way former present

-- ---- no attribute of a key

-- the attributes of keys other than this one, in order (tiles 4.4)
abbrev pub of_other_keys : List ℕ → List (List ℕ × List ℕ) → List (List ℕ × List ℕ)
of_other_keys key found = filter (λ attribute. not (bytes_eq key attribute.0)) found

-- the feature had attributes in the former layer, and in the present one it has those of other keys, in their order;
-- all its fields other than tags are as they were (tiles 4.2, 4.4)
pub record LosesAttribute (key : List ℕ) (former present : Layer) (old new : Feature) : Type 0 where
  pub found : List (List ℕ × List ℕ)
  pub had : attributes former old ≡ Some found
  pub has : attributes present new ≡ Some (of_other_keys key found)
  pub others : without_tags new.fields ≡ without_tags old.fields

-- where unsetting a key is accepted, the selected feature loses the attributes of that key, and nothing outside its
-- tags fields differs; in which of these the tags that stay are, and how they are spelled, is left open
abbrev pub UnsetUnsets : Type 0
UnsetUnsets = (choice : LayerChoice) (feature : FeatureChoice) (key : List ℕ) (old new : Document) → applied (UnsetAttribute choice feature key) old ≡ Ok new → ChangesLayer choice (λ former present. ChangesFeature feature (LosesAttribute key former present) former present) old new

-- where unsetting a key is accepted, the same command is accepted on the result, and changes nothing
abbrev pub UnsetAgainChangesNothing : Type 0
UnsetAgainChangesNothing = (choice : LayerChoice) (feature : FeatureChoice) (key : List ℕ) (old new : Document) → applied (UnsetAttribute choice feature key) old ≡ Ok new → applied (UnsetAttribute choice feature key) new ≡ Ok new

-- ---- a value for a key

-- the attribute has the key (tiles 4.4)
abbrev pub is_of : List ℕ → List ℕ × List ℕ → Bool
is_of key attribute = bytes_eq key attribute.0

-- the attribute, with this value where it has the key (tiles 4.4)
abbrev pub valued : List ℕ → List ℕ → List ℕ × List ℕ → List ℕ × List ℕ
valued key value attribute = if is_of key attribute then (attribute.0, value) else attribute

-- the attributes with this value for the key: in place of the one that it had, and at the end where it had none
-- (tiles 4.4)
abbrev pub with_value : List ℕ → List ℕ → List (List ℕ × List ℕ) → List (List ℕ × List ℕ)
with_value key value found =
    if list_any (is_of key) found
    then map (valued key value) found
    else found ++ (key, value) ∷ []

-- the keys or the values of a layer, with these bytes at the end where they are missing (tiles 4.1)
abbrev pub with_entry : List ℕ → List (List ℕ) → List (List ℕ)
with_entry bytes entries = if list_any (bytes_eq bytes) entries then entries else entries ++ bytes ∷ []

-- the field is a key or a value of a layer (tiles 4.1)
abbrev pub is_entry : Field → Bool
is_entry field = is_some (content_in key_field field) || is_some (content_in value_field field)

-- the feature had attributes in the former layer, of which at most one had the key; in the present one it has them with
-- the value for the key, and all its fields other than tags are as they were (tiles 4.2, 4.4)
pub record GetsAttribute (key value : List ℕ) (former present : Layer) (old new : Feature) : Type 0 where
  pub found : List (List ℕ × List ℕ)
  pub had : attributes former old ≡ Some found
  pub once : count (is_of key) found ≤ 1
  pub has : attributes present new ≡ Some (with_value key value found)
  pub others : without_tags new.fields ≡ without_tags old.fields

-- the selected feature gets the value for the key; each other feature, and the attributes of each that had some, are as
-- they were; the key and the value are those of the layer, at most one more of each, and its other fields and the
-- positions of its features are as they were (tiles 4.1, 4.2, 4.4)
pub record SetsAttribute (choice : FeatureChoice) (key value : List ℕ) (old new : Layer) : Type 0 where
  pub ordinal : ℕ
  pub selects : selected_feature choice old ≡ Ok ordinal
  pub former : Feature
  pub was : slice_get (features old) ordinal ≡ Some former
  pub present : Feature
  pub is : slice_get (features new) ordinal ≡ Some present
  pub becomes : FeatureBecomes (GetsAttribute key value old new) former present
  pub others : (other : ℕ) → other ≢ ordinal → slice_get (features new) other ≡ slice_get (features old) other
  pub stay : (feature : Feature) (found : List (List ℕ × List ℕ)) → attributes old feature ≡ Some found → attributes new feature ≡ Some found
  pub keys_so : keys new ≡ with_entry key (keys old)
  pub values_so : values new ≡ with_entry value (values old)
  pub more : List Field
  pub fields : plain_fields new.items ≡ plain_fields old.items ++ more
  pub entries : list_all is_entry more ≡ true
  pub positions : feature_positions new.items ≡ feature_positions old.items

-- where a value for a key is accepted, the selected feature gets it, and no other layer differs
abbrev pub SetSets : Type 0
SetSets = (choice : LayerChoice) (feature : FeatureChoice) (key : List ℕ) (value : Value) (old new : Document) → applied (SetAttribute choice feature key value) old ≡ Ok new → ChangesLayer choice (SetsAttribute feature key (encoded_value value)) old new

-- the selected feature loses the attributes of the key
pub record SelectedLoses (choice : FeatureChoice) (key : List ℕ) (old new : Layer) : Type 0 where
  pub ordinal : ℕ
  pub selects : selected_feature choice old ≡ Ok ordinal
  pub former : Feature
  pub was : slice_get (features old) ordinal ≡ Some former
  pub present : Feature
  pub is : slice_get (features new) ordinal ≡ Some present
  pub becomes : FeatureBecomes (LosesAttribute key old new) former present

-- where a value for a key is accepted, unsetting the key is then accepted; of the attributes that the selected feature
-- had before both, it then has those of other keys, as if the key had been unset alone
abbrev pub SetThenUnset : Type 0
SetThenUnset = (choice : LayerChoice) (feature : FeatureChoice) (key : List ℕ) (value : Value) (old between : Document) → applied (SetAttribute choice feature key value) old ≡ Ok between
    → (new : Document) × (applied (UnsetAttribute choice feature key) between ≡ Ok new) × ChangesLayer choice (SelectedLoses feature key) old new

-- ---- no attribute of a key in any feature

-- each feature of the layer loses the attributes of the key; the other fields of the layer and the positions of the
-- features are as they were (tiles 4.1, 4.2)
pub record ExcludesKey (key : List ℕ) (old new : Layer) : Type 0 where
  pub each : (ordinal : ℕ) (former : Feature) → slice_get (features old) ordinal ≡ Some former → (present : Feature) × (slice_get (features new) ordinal ≡ Some present) × FeatureBecomes (LosesAttribute key old new) former present
  pub fields : plain_fields new.items ≡ plain_fields old.items
  pub positions : feature_positions new.items ≡ feature_positions old.items

-- where excluding a key is accepted, each feature of each selected layer loses the attributes of that key, and nothing
-- outside their tags fields differs; in which of these the tags that stay are, and how they are spelled, is left open
abbrev pub ExcludeExcludes : Type 0
ExcludeExcludes = (choice : LayersChoice) (key : List ℕ) (old new : Document) → applied (Exclude choice key) old ≡ Ok new → ChangesLayers choice (ExcludesKey key) old new

-- where excluding a key is accepted, the same command is accepted on the result, and changes nothing
abbrev pub ExcludeAgainChangesNothing : Type 0
ExcludeAgainChangesNothing = (choice : LayersChoice) (key : List ℕ) (old new : Document) → applied (Exclude choice key) old ≡ Ok new → applied (Exclude choice key) new ≡ Ok new

-- ---- no attributes

-- a feature without its tags fields (tiles 4.2)
abbrev pub untagged_feature : Feature → Feature
untagged_feature feature = record feature { fields = without_tags feature.fields }

-- no feature of the layer has an attribute; each has its fields other than tags, in their order, and the other fields
-- of the layer and the positions of the features are as they were (tiles 4.1, 4.2)
pub record LosesAttributes (old new : Layer) : Type 0 where
  pub none : AllByRecursion (λ feature. attributes new feature ≡ Some []) (features new)
  pub features_so : features new ≡ map untagged_feature (features old)
  pub fields : plain_fields new.items ≡ plain_fields old.items
  pub positions : feature_positions new.items ≡ feature_positions old.items

-- where excluding all attributes is accepted, each selected layer loses those of its features, and nothing else differs
abbrev pub ExcludeAllExcludes : Type 0
ExcludeAllExcludes = (choice : LayersChoice) (old new : Document) → applied (ExcludeAll choice) old ≡ Ok new → ChangesLayers choice LosesAttributes old new

-- The commands by the pools that they compact, and the steps of a layer.
use Rattle.std.specs.Prelude.{ℕ, ◌+◌, Bool, true, false, not, List, [], ◌∷◌, ◌++◌, if◌then◌else◌}
use Rattle.mvt_document.specs.Plain.{Field, LayerItem, Layer}
use Rattle.mvt_change.specs.Changes.{Change}
use Rattle.mvt_meaning.specs.Command.{Command, LayersChoice, CompactKeys, CompactValues, Compact}
use Rattle.mvt_messages.specs.Views.{key_field, value_field}
use Rattle.mvt_meaning.specs.Compaction.{is_any, is_entry, is_key_used, is_value_used, new_ordinals}
use Rattle.mvt_edit_steps.specs.Decided.{field_fates}
use Rattle.mvt_edit_steps.specs.EachFeature.{layer_steps}
use Rattle.mvt_edit_pools.specs.Marks.{entry_steps}
use Rattle.mvt_renumber.specs.declared.fate.Fate.{Fate}
use Rattle.mvt_edit_pools.specs.declared.compact.Pools.{Pools}
use Rattle.mvt_edit_pools.specs.declared.compact.Pools.TheVariants.{Keys, Values, Both}

-- the command that compacts these pools of some layers (tiles 4.1)
abbrev pub compaction : Pools → LayersChoice → Command
compaction Keys choice = CompactKeys choice
compaction Values choice = CompactValues choice
compaction Both choice = Compact choice

-- all keys stay
abbrev pub all_keys : Pools → Bool
all_keys Keys = false
all_keys Values = true
all_keys Both = false

-- all values stay
abbrev pub all_values : Pools → Bool
all_values Keys = true
all_values Values = false
all_values Both = false

-- which keys stay in a layer of these items (tiles 4.4)
abbrev pub keys_stay : Pools → List LayerItem → ℕ → Bool
keys_stay Keys items ordinal = is_key_used items ordinal
keys_stay Values items ordinal = is_any items ordinal
keys_stay Both items ordinal = is_key_used items ordinal

-- which values stay in a layer of these items (tiles 4.4)
abbrev pub values_stay : Pools → List LayerItem → ℕ → Bool
values_stay Keys items ordinal = is_any items ordinal
values_stay Values items ordinal = is_value_used items ordinal
values_stay Both items ordinal = is_value_used items ordinal

-- ---- a layer in which some keys and some values stay

-- what becomes of the fields of a feature, in a layer of these items (tiles 4.4)
abbrev pub ordinal_fates : (List LayerItem → ℕ → Bool) → (List LayerItem → ℕ → Bool) → List LayerItem → List Field → List (Fate Field)
ordinal_fates keys values items fields = field_fates 2 (new_ordinals (keys items) (values items) items fields) fields

-- for each item whether it is a key or a value that goes, where the next key and the next value have these ordinals
-- (tiles 4.1)
abbrev pub gone_from : (ℕ → Bool) → (ℕ → Bool) → ℕ → ℕ → List LayerItem → List Bool
gone_from keys values key value [] = []
gone_from keys values key value (item ∷ items) =
    if is_entry key_field item then not (keys key) ∷ gone_from keys values (key + 1) value items
    else if is_entry value_field item then not (values value) ∷ gone_from keys values key (value + 1) items
    else false ∷ gone_from keys values key value items

-- the steps of the layer, which is found with its position: those of its features, then those that take entries out
-- (tiles 4.1, 4.4)
abbrev pub compacting : (List LayerItem → ℕ → Bool) → (List LayerItem → ℕ → Bool) → ℕ × (ℕ × Layer) → Change
compacting keys values found = layer_steps (ordinal_fates keys values) found ++ entry_steps found.1.0 (gone_from (keys found.1.1.items) (values found.1.1.items) 0 0 found.1.1.items)

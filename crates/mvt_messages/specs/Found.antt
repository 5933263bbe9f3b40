-- What is found in a list: each item that counts, with its ordinal among those that do, and its position among all.
use Rattle.std.specs.Prelude.{ℕ, List, Option, drop, filter, option_map}
use Rattle.std.specs.List.{filter_map, enumerate_from}
use Rattle.mvt_document.specs.Plain.{Feature, Layer, LayerItem, Document}
use Rattle.mvt_messages.specs.Views.{feature_in, has_id, layer_in}

-- what an item is, with its position, or none where it does not count
abbrev pub with_position : {A B : Type 0} → (A → Option B) → ℕ × A → Option (ℕ × B)
with_position pick at = option_map (λ found. (at.0, found)) (pick at.1)

-- what is found from this position of a list on, in order, each with its position
abbrev pub placed_from : {A B : Type 0} → (A → Option B) → ℕ → List A → List (ℕ × B)
placed_from pick position items = filter_map (with_position pick) (enumerate_from position (drop position items))

-- the same, each with its ordinal before its position, where the first has this ordinal
abbrev pub found_from : {A B : Type 0} → (A → Option B) → ℕ → ℕ → List A → List (ℕ × (ℕ × B))
found_from pick ordinal position items = enumerate_from ordinal (placed_from pick position items)

-- what is found in a list, in order, each with its ordinal and its position
abbrev pub found_in : {A B : Type 0} → (A → Option B) → List A → List (ℕ × (ℕ × B))
found_in pick items = found_from pick 0 0 items

-- the layers of a tile, in order, each with its ordinal and its position (tiles 4.1)
abbrev pub found_layers : Document → List (ℕ × (ℕ × Layer))
found_layers document = found_in layer_in document

-- the features among the items of a layer, in order, each with its ordinal and its position (tiles 4.2)
abbrev pub found_features : List LayerItem → List (ℕ × (ℕ × Feature))
found_features items = found_in feature_in items

-- the features that have this id, in order, each with its ordinal and its position (tiles 4.2)
abbrev pub with_id : ℕ → List (ℕ × (ℕ × Feature)) → List (ℕ × (ℕ × Feature))
with_id id found = filter (λ (f : ℕ × (ℕ × Feature)). has_id id f.1.1) found

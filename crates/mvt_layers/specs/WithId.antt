-- The features that have an id, from an item of a layer on.
use Rattle.std.specs.Prelude.{◌≡◌, ℕ, ◌+◌, ◌<◌, ◌≤◌, ◌∷◌, List, Option, Some, None, length, if◌then◌else◌, MatchOption}
use Rattle.mvt_document.specs.Plain.{Feature, LayerItem, OfFeature, PlainInLayer}
use Rattle.mvt_messages.specs.Found.{found_from, with_id}
use Rattle.mvt_messages.specs.Views.{feature_in, has_id}
use Rattle.mvt_layers.specs.declared.found.FoundFeature.{FoundFeature}
use Rattle.mvt_layers.specs.Seen.{found_feature_seen}

-- the feature that an item of a layer is, where it has this id; else none (tiles 4.2)
abbrev pub feature_with_id : ℕ → LayerItem → Option Feature
feature_with_id id (OfFeature feature) = if has_id id feature then Some feature else None
feature_with_id id (PlainInLayer field) = None

-- the features that have this id from a position of a layer's items on, where the first feature there has this ordinal
-- (tiles 4.2)
abbrev pub with_id_from : ℕ → ℕ → ℕ → List LayerItem → List (ℕ × (ℕ × Feature))
with_id_from id ordinal position items = with_id id (found_from feature_in ordinal position items)

-- what was found is the first of these features, and after it are those from the next position on; where nothing was
-- found, they are those that are left
abbrev pub IsFirstWithId : ℕ → ℕ → ℕ → List LayerItem → List (ℕ × (ℕ × Feature)) → Option FoundFeature → Type 0
IsFirstWithId id ordinal position items left result = MatchOption result
    (with_id_from id ordinal position items ≡ left)
    (λ found. with_id_from id ordinal position items ≡ found_feature_seen found ∷ with_id_from id (found.ordinal + 1) (found.position + 1) items)

-- what was found is within this list, and its ordinal, which counts only features, is no further than its position
abbrev pub IsPlacedIn : {A : Type 0} → List A → FoundFeature → Type 0
IsPlacedIn items found = (found.ordinal ≤ found.position) × (found.position < length items)

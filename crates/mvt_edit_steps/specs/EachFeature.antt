-- The steps by which the fields of many features change.
use Rattle.std.specs.Prelude.{ℕ, List, map}
use Rattle.std.specs.List.{flat_map}
use Rattle.mvt_document.specs.Plain.{Field, Feature, LayerItem, Layer}
use Rattle.mvt_change.specs.Changes.{Change, FeatureStep}
use Rattle.mvt_messages.specs.Found.{found_features}
use Rattle.mvt_edit_steps.specs.Fates.{splices_of}
use Rattle.mvt_renumber.specs.declared.fate.Fate.{Fate}

-- the steps of what becomes of the fields of a feature, which is found with its position, in the layer at that position
abbrev pub feature_steps : (List Field → List (Fate Field)) → ℕ → ℕ × (ℕ × Feature) → Change
feature_steps fates layer found = map (λ s. FeatureStep layer found.1.0 s.index s.taken s.put) (splices_of (fates found.1.1.fields))

-- the steps of what becomes, in a layer of these items, of the fields of each feature; the layer is found with its
-- position
abbrev pub layer_steps : (List LayerItem → List Field → List (Fate Field)) → ℕ × (ℕ × Layer) → Change
layer_steps fates found = flat_map (feature_steps (fates found.1.1.items) found.1.0) (found_features found.1.1.items)

-- Where a command asks for memory, and so may run out of it.
use Rattle.std.specs.Prelude.{ℕ, nat_lt, IsOk}
use Rattle.mvt_document.specs.Plain.{Document}
use Rattle.mvt_meaning.specs.Command.{LayerChoice, FeatureChoice, Command, RenameLayer, KeepLayers, InsertFeature, SetId, SetAttribute, UnsetAttribute, Exclude, Shift, SetGeometry, CompactKeys, CompactValues, Compact}
use Rattle.mvt_meaning.specs.Selection.{selected, selected_in, selected_layers}
use Rattle.mvt_meaning.specs.Meaning.{◌>>=◌, applied, feature_count, is_taken, refuse_if}
use Rattle.mvt_meaning.specs.declared.refusal.Refusal.TheVariants.{BadPlace, NameTaken}

-- a layer and a feature of it are selected (tiles 4.1, 4.2)
abbrev pub FindsFeature : LayerChoice → FeatureChoice → Document → Type 0
FindsFeature choice feature document = IsOk (selected choice document >>= λ ordinal. selected_in feature ordinal document)

-- the command asks for memory, since no refusal comes before that: always, to keep layers; where the layer is selected
-- and its new name is free, to rename it; where the layer is selected and the place is there, to insert a feature; where
-- the feature is selected, to read or to write its fields; where the layers are, to read the tags of their features; and
-- any other command only where it is accepted
abbrev pub AsksForMemory : Command → Document → Type 0
AsksForMemory (RenameLayer choice name) document = IsOk (selected choice document >>= λ ordinal. refuse_if (is_taken name ordinal document) NameTaken)
AsksForMemory (KeepLayers names) document = Unit {0}
AsksForMemory (InsertFeature choice index geometry) document = IsOk (selected choice document >>= λ ordinal. refuse_if (nat_lt (feature_count ordinal document) index) BadPlace)
AsksForMemory (SetId choice feature id) document = FindsFeature choice feature document
AsksForMemory (SetAttribute choice feature key value) document = FindsFeature choice feature document
AsksForMemory (UnsetAttribute choice feature key) document = FindsFeature choice feature document
AsksForMemory (Exclude choice key) document = IsOk (selected_layers choice document)
AsksForMemory (Shift choice feature dx dy) document = FindsFeature choice feature document
AsksForMemory (SetGeometry choice feature geometry) document = FindsFeature choice feature document
AsksForMemory (CompactKeys choice) document = IsOk (selected_layers choice document)
AsksForMemory (CompactValues choice) document = IsOk (selected_layers choice document)
AsksForMemory (Compact choice) document = IsOk (selected_layers choice document)
AsksForMemory command document = IsOk (applied command document)

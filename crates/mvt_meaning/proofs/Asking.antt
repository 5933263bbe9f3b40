-- Commands that ask for memory.
use Rattle.std.proofs.Common.{◌≡◌, ℕ, Some, Result, Ok, Err, slice_get, refl, ◌∙◌}
use Rattle.std.specs.Prelude.{nat_lt, IsOk}
use Rattle.mvt_document.specs.Plain.{Layer, OfLayer, Document}
use Rattle.mvt_meaning.specs.Command.{LayerChoice, FeatureChoice, Command, RenameLayer, MoveLayer, DropLayer, KeepLayers, InsertFeature, MoveFeature, DropFeature, SetId, ClearId, SetAttribute, UnsetAttribute, RenameKey, Exclude, ExcludeAll, Shift, SetGeometry, CompactKeys, CompactValues, Compact}
use Rattle.mvt_meaning.specs.Meaning.{◌>>=◌, applied, feature_count, is_taken, refuse_if}
use Rattle.mvt_meaning.specs.Memory.{AsksForMemory, FindsFeature}
use Rattle.mvt_meaning.specs.Selection.{layer_positions, selected, selected_feature, selected_in, selected_layers}
use Rattle.mvt_meaning.specs.declared.refusal.Refusal.{Refusal}
use Rattle.mvt_meaning.specs.declared.refusal.Refusal.TheVariants.{BadPlace, NameTaken}
use Rattle.mvt_meaning.proofs.Found.{selected_in_found}

-- what stands is no refusal
pub stands : {A : Type 0} (r : Result A Refusal) (x : A) → r ≡ Ok x → IsOk r
stands (Ok y) x is = refl
stands (Err e) x is = absurd cc

-- ---- of a command that is accepted, no step is refused

first : {A B : Type 0} (r : Result A Refusal) (f : A → Result B Refusal) → IsOk (r >>= f) → IsOk r
first (Ok x) f ok = refl
first (Err e) f ok = ok

onto : {A B C : Type 0} (r : Result A Refusal) (f : A → Result B Refusal) (g : A → Result C Refusal) → ((x : A) → IsOk (f x) → IsOk (g x)) → IsOk (r >>= f) → IsOk (r >>= g)
onto (Ok x) f g follows ok = follows x ok
onto (Err e) f g follows ok = ok

finds_first : {B : Type 0} (choice : LayerChoice) (feature : FeatureChoice) (document : Document) (f : ℕ → ℕ → Result B Refusal) → IsOk (selected choice document >>= λ ordinal. selected_in feature ordinal document >>= f ordinal) → FindsFeature choice feature document
finds_first choice feature document f ok = onto (selected choice document) _ _ (λ ordinal. first (selected_in feature ordinal document) (f ordinal)) ok

pub accepted_asks : (command : Command) (document : Document) → IsOk (applied command document) → AsksForMemory command document
accepted_asks (RenameLayer choice name) document ok = onto (selected choice document) _ _ (λ ordinal. first (refuse_if (is_taken name ordinal document) NameTaken) _) ok
accepted_asks (MoveLayer choice index) document ok = ok
accepted_asks (DropLayer choice) document ok = ok
accepted_asks (KeepLayers names) document ok = tt
accepted_asks (InsertFeature choice index geometry) document ok = onto (selected choice document) _ _ (λ ordinal. first (refuse_if (nat_lt (feature_count ordinal document) index) BadPlace) _) ok
accepted_asks (MoveFeature choice feature index) document ok = ok
accepted_asks (DropFeature choice feature) document ok = ok
accepted_asks (SetId choice feature id) document ok = finds_first choice feature document _ ok
accepted_asks (ClearId choice feature) document ok = ok
accepted_asks (SetAttribute choice feature key value) document ok = finds_first choice feature document _ ok
accepted_asks (UnsetAttribute choice feature key) document ok = finds_first choice feature document _ ok
accepted_asks (RenameKey choice old new) document ok = ok
accepted_asks (Exclude choice key) document ok = first (selected_layers choice document) _ ok
accepted_asks (ExcludeAll choice) document ok = ok
accepted_asks (Shift choice feature dx dy) document ok = finds_first choice feature document _ ok
accepted_asks (SetGeometry choice feature geometry) document ok = finds_first choice feature document _ ok
accepted_asks (CompactKeys choice) document ok = first (selected_layers choice document) _ ok
accepted_asks (CompactValues choice) document ok = first (selected_layers choice document) _ ok
accepted_asks (Compact choice) document ok = first (selected_layers choice document) _ ok

pub asks_by : (command : Command) (document after : Document) → applied command document ≡ Ok after → AsksForMemory command document
asks_by command document after accepted = accepted_asks command document (stands (applied command document) after accepted)

-- ---- where a layer, and a feature of it, was found

module _ (choice : LayerChoice) (document : Document) (ordinal position : ℕ) (layer : Layer) (chosen : selected choice document ≡ Ok ordinal) (placed : slice_get (layer_positions document) ordinal ≡ Some position) (there : slice_get document position ≡ Some (OfLayer layer)) where
  pub finds_feature : (feature : FeatureChoice) (selects : ℕ) → selected_feature feature layer ≡ Ok selects → FindsFeature choice feature document
  finds_feature feature selects is =
      let here : selected_in feature ordinal document ≡ Ok selects = selected_in_found document ordinal position layer placed there feature ∙ is in
      rw (chosen, here) refl

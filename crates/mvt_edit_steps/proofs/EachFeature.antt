-- Lists of lists; and what is made of each feature of a layer.
use Rattle.std.proofs.Common.{◌≡◌, ℕ, List, [], ◌∷◌, ◌++◌, map, refl, sym, ap, ◌∙◌}
use Rattle.std.proofs.lemmas.List.{map-append}
use Rattle.std.proofs.lemmas.List.Concat.{flat_map-append}
use Rattle.std.proofs.lemmas.List.Folds.{flat_map-map}
use Rattle.std.specs.List.{flat_map}
use Rattle.mvt_document.specs.Plain.{Feature, Layer}
use Rattle.mvt_messages.specs.Found.{found_features}
use Rattle.mvt_messages.specs.Views.{feature_in, features}
use Rattle.mvt_layers.proofs.Placing.{found_items}

module _ {A B C : Type 0} (f : A → List B) where
  pub mapped_each : (g : B → C) (list : List A) → map g (flat_map f list) ≡ flat_map (λ x. map g (f x)) list
  mapped_each g [] = refl
  mapped_each g (x ∷ list) = map-append g (f x) (flat_map f list) ∙ ap (λ rest. map g (f x) ++ rest) (mapped_each g list)

  pub joined_each : (g : B → List C) (list : List A) → flat_map g (flat_map f list) ≡ flat_map (λ x. flat_map g (f x)) list
  joined_each g [] = refl
  joined_each g (x ∷ list) = flat_map-append g (f x) (flat_map f list) ∙ ap (λ rest. flat_map g (f x) ++ rest) (joined_each g list)

-- what is made of the features of a layer, by what is made of each
pub of_features : {A : Type 0} (layer : Layer) (made : Feature → List A) → flat_map (λ (at : ℕ × (ℕ × Feature)). made at.1.1) (found_features layer.items) ≡ flat_map made (features layer)
of_features layer made =
    sym (flat_map-map made (λ (at : ℕ × (ℕ × Feature)). at.1.1) (found_features layer.items)) ∙ ap (flat_map made) (found_items feature_in layer.items)

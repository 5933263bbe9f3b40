-- The features of the selected layers have attributes, where none of them is unreadable.
use Rattle.std.proofs.Common.{◌≡◌, ℕ, zero, suc, ◌+◌, ◌==◌, Bool, true, not, is_some, Option, Some, None, option_map, Ok, List, [], ◌∷◌, ◌++◌, map, filter, slice_get, refl, ap, ◌∙◌, inl, inr, subst, arith}
use Rattle.std.proofs.lemmas.Bool.{cases_Bool, eq-eqb}
use Rattle.std.specs.List.{AllByRecursion, cons_option, enumerate_from, filter_map, flat_map}
use Rattle.mvt_document.specs.Plain.{Feature, Layer, Document}
use Rattle.mvt_document.proofs.EachItem.{one_of_all}
use Rattle.mvt_meaning.specs.Command.{LayersChoice, TheLayer, EachLayer}
use Rattle.mvt_messages.specs.Attributes.{pairs_of}
use Rattle.mvt_messages.specs.Found.{found_layers, placed_from, with_position}
use Rattle.mvt_messages.specs.Views.{features, layer_in, layers, ordinals_of}
use Rattle.mvt_meaning.specs.Selection.{selected_layers}
use Rattle.mvt_meaning.specs.Tagging.{unreadable}
use Rattle.mvt_meaning.specs.Meaning.{refuse_first}
use Rattle.command_laws.specs.ChangedLayers.{IsSelected}

-- ---- lists that nothing is made of

none_joined : {A : Type 0} (xs ys : List A) → xs ++ ys ≡ [] → (xs ≡ []) × (ys ≡ [])
none_joined [] ys e = (refl, e)
none_joined (x ∷ xs) ys e = absurd cc

none_mapped : {A B : Type 0} (f : A → B) (xs : List A) → map f xs ≡ [] → xs ≡ []
none_mapped f [] e = refl
none_mapped f (x ∷ xs) e = absurd cc

module _ {A B : Type 0} (f : A → List B) where
  none_made : (xs : List A) → flat_map f xs ≡ [] → AllByRecursion (λ x. f x ≡ []) xs
  none_made [] e = tt
  none_made (x ∷ xs) e = let parts = none_joined (f x) (flat_map f xs) e in (parts.0, none_made xs parts.1)

  none_made_of : (passes : A → Bool) (xs : List A) → flat_map f (filter passes xs) ≡ [] → AllByRecursion (λ x. passes x ≡ true → f x ≡ []) xs
  none_made_of passes [] e = tt
  none_made_of passes (x ∷ xs) e =
      elim (cases_Bool (passes x)) [
        | inl pass ↦ (let parts = none_joined (f x) (flat_map f (filter passes xs)) (rw pass at e) in ((λ is. parts.0), none_made_of passes xs parts.1))
        | inr skip ↦ ((λ is. absurd cc), none_made_of passes xs (rw skip at e))
      ]

-- each item passes, where no number of an item that does not pass is found
each_passes : {A : Type 0} (passes : A → Bool) (n : ℕ) (xs : List A) (index : ℕ) (x : A) → filter (λ (p : ℕ × A). not (passes p.1)) (enumerate_from n xs) ≡ [] → slice_get xs index ≡ Some x → passes x ≡ true
each_passes passes n [] index x e is = absurd cc
each_passes passes n (y ∷ xs) zero x e is =
    let same : y ≡ x = cc in
    elim (cases_Bool (passes y)) [
      | inl pass ↦ subst (λ item. passes item ≡ true) same pass
      | inr skip ↦ absurd (let none = rw skip at e in cc)
    ]
each_passes passes n (y ∷ xs) (suc index) x e is =
    elim (cases_Bool (passes y)) [
      | inl pass ↦ each_passes passes (n + 1) xs index x (rw pass at e) is
      | inr skip ↦ absurd (let none = rw skip at e in cc)
    ]

-- ---- a layer, found with its ordinal and its position

module _ {A : Type 0} where
  numbered : (n : ℕ) (xs : List A) (index k : ℕ) (x : A) → n + index ≡ k → slice_get xs index ≡ Some x → slice_get (enumerate_from n xs) index ≡ Some (k, x)
  numbered n [] index k x at is = absurd cc
  numbered n (y ∷ xs) zero k x at is = let same : y ≡ x = cc in let first : n ≡ k = omega (arith, at) in ap {B = Option (ℕ × A)} (λ item. Some (n, item)) same ∙ ap {B = Option (ℕ × A)} (λ m. Some (m, x)) first
  numbered n (y ∷ xs) (suc index) k x at is = numbered (n + 1) xs index k x (omega (arith, at)) is

module _ {A B : Type 0} (pick : A → Option B) where
  next_placed : (n : ℕ) (found : Option B) (rest : List B) (more : List (ℕ × B)) (ordinal : ℕ) (y : B) → slice_get (cons_option found rest) ordinal ≡ Some y → ((m : ℕ) → slice_get rest m ≡ Some y → (position : ℕ) × (slice_get more m ≡ Some (position, y))) → (position : ℕ) × (slice_get (cons_option (option_map (λ item. (n, item)) found) more) ordinal ≡ Some (position, y))
  next_placed n None rest more ordinal y is later = later ordinal is
  next_placed n (Some x) rest more zero y is later = let same : x ≡ y = cc in (n, ap {B = Option (ℕ × B)} (λ item. Some (n, item)) same)
  next_placed n (Some x) rest more (suc m) y is later = later m is

  placed : (n : ℕ) (xs : List A) (ordinal : ℕ) (y : B) → slice_get (filter_map pick xs) ordinal ≡ Some y → (position : ℕ) × (slice_get (filter_map (with_position pick) (enumerate_from n xs)) ordinal ≡ Some (position, y))
  placed n [] ordinal y is = absurd cc
  placed n (x ∷ xs) ordinal y is =
      next_placed n (pick x) (filter_map pick xs) (filter_map (with_position pick) (enumerate_from (n + 1) xs)) ordinal y is (λ m there. placed (n + 1) xs m y there)

found_there : (document : Document) (ordinal : ℕ) (layer : Layer) → slice_get (layers document) ordinal ≡ Some layer → (position : ℕ) × (slice_get (found_layers document) ordinal ≡ Some (ordinal, (position, layer)))
found_there document ordinal layer is =
    let at = placed layer_in 0 document ordinal layer is in
    (at.0, numbered 0 (placed_from layer_in 0 document) ordinal ordinal (at.0, layer) (omega arith) at.1)

-- ---- the features of a selected layer

-- the features of a found layer that are unreadable
abbrev unreadable_of : ℕ × (ℕ × Layer) → List (ℕ × ℕ)
unreadable_of at = map (λ feature. (at.0, feature)) (ordinals_of (λ feature. not (is_some (pairs_of at.1.1 feature))) (features at.1.1))

all_read : (ordinal position : ℕ) (layer : Layer) → unreadable_of (ordinal, (position, layer)) ≡ [] → (index : ℕ) (feature : Feature) → slice_get (features layer) index ≡ Some feature → is_some (pairs_of layer feature) ≡ true
all_read ordinal position layer none index feature is =
    let none_ordinal = none_mapped (λ (n : ℕ). (ordinal, n)) (ordinals_of (λ feature. not (is_some (pairs_of layer feature))) (features layer)) none in
    let none_found = none_mapped (λ (p : ℕ × Feature). p.0) (filter (λ (p : ℕ × Feature). not (is_some (pairs_of layer p.1))) (enumerate_from 0 (features layer))) none_ordinal in
    each_passes (λ feature. is_some (pairs_of layer feature)) 0 (features layer) index feature none_found is

none_first : (found : List (ℕ × ℕ)) (nothing : Unit {0}) → refuse_first found ≡ Ok nothing → found ≡ []
none_first [] nothing e = refl
none_first (at ∷ found) nothing e = absurd cc

none_of_layer : (choice : LayersChoice) (document : Document) (found : List (ℕ × (ℕ × Layer))) (ordinal position : ℕ) (layer : Layer) → selected_layers choice document ≡ Ok found → unreadable found ≡ [] → IsSelected choice ordinal document → slice_get (found_layers document) ordinal ≡ Some (ordinal, (position, layer)) → unreadable_of (ordinal, (position, layer)) ≡ []
none_of_layer (TheLayer choice) document found ordinal position layer selected_so none selects there =
    let filtered : filter (λ (at : ℕ × (ℕ × Layer)). at.0 == ordinal) (found_layers document) ≡ found = let same = rw selects at selected_so in cc in
    let each = none_made_of unreadable_of (λ (at : ℕ × (ℕ × Layer)). at.0 == ordinal) (found_layers document) (ap unreadable filtered ∙ none) in
    one_of_all (λ (at : ℕ × (ℕ × Layer)). (at.0 == ordinal) ≡ true → unreadable_of at ≡ []) (found_layers document) ordinal (ordinal, (position, layer)) there each (eq-eqb ordinal ordinal refl)
none_of_layer EachLayer document found ordinal position layer selected_so none selects there =
    let all : found_layers document ≡ found = cc in
    let each = none_made unreadable_of (found_layers document) (ap unreadable all ∙ none) in
    one_of_all (λ (at : ℕ × (ℕ × Layer)). unreadable_of at ≡ []) (found_layers document) ordinal (ordinal, (position, layer)) there each

-- each feature of a selected layer makes pairs
pub selected_read : (choice : LayersChoice) (document : Document) (found : List (ℕ × (ℕ × Layer))) (nothing : Unit {0}) → selected_layers choice document ≡ Ok found → refuse_first (unreadable found) ≡ Ok nothing → (ordinal : ℕ) (layer : Layer) → IsSelected choice ordinal document → slice_get (layers document) ordinal ≡ Some layer → (index : ℕ) (feature : Feature) → slice_get (features layer) index ≡ Some feature → is_some (pairs_of layer feature) ≡ true
selected_read choice document found nothing selected_so readable ordinal layer selects there =
    let at = found_there document ordinal layer there in
    all_read ordinal at.0 layer (none_of_layer choice document found ordinal at.0 layer selected_so (none_first (unreadable found) nothing readable) selects at.1)

-- The selected layers are found where they are.
use Rattle.std.proofs.Common.{◌≡◌, ℕ, suc, zero, ◌+◌, ◌<◌, ◌==◌, true, false, Option, Some, None, Ok, Err, List, [], ◌∷◌, length, filter, get_or, slice_get, refl, sym, ap, ◌∙◌, arith}
use Rattle.std.proofs.lemmas.Bool.Decides.{nat_tests}
use Rattle.std.proofs.lemmas.Option.{slice_get-get_or}
use Rattle.std.specs.List.{enumerate_from}
use Rattle.mvt_document.specs.Plain.{Layer, OfLayer, Document}
use Rattle.mvt_document.specs.Stands.{layer_of}
use Rattle.mvt_meaning.specs.Command.{LayerChoice, TheLayer}
use Rattle.mvt_messages.specs.Found.{found_layers, placed_from}
use Rattle.mvt_layers.specs.Seen.{found_layer_seen}
use Rattle.mvt_messages.specs.Views.{layer_in}
use Rattle.mvt_layers.specs.declared.found.FoundLayer.{FoundLayer}
use Rattle.mvt_layers.proofs.Placing.{found_count}
use Rattle.mvt_meaning.specs.Selection.{layer_positions, selected, selected_layers}
use Rattle.mvt_meaning.specs.declared.refusal.Refusal.{Refusal}
use Rattle.mvt_meaning.proofs.Selecting.{selected_within}
use Rattle.mvt_select.specs.Found.{IsFoundLayer}
use Rattle.mvt_select.proofs.Selected.{layer_there, no_position_there, stands}

-- ---- the one of an ordinal

none_later : {B : Type 0} (k n : ℕ) (list : List B) → n < k → filter (λ (found : ℕ × B). found.0 == n) (enumerate_from k list) ≡ []
none_later k n [] before = refl
none_later {B} k n (x ∷ list) before =
    let other : (k == n) ≡ false = grind (arith, nat_tests) in
    rw other (none_later (k + 1) n list (omega arith))

the_numbered : {B : Type 0} (k n index : ℕ) (list : List B) (x : B) → n ≡ k + index → slice_get list index ≡ Some x → filter (λ (found : ℕ × B). found.0 == n) (enumerate_from k list) ≡ (n, x) ∷ []
the_numbered k n index [] x place is = absurd cc
the_numbered {B} k n zero (y ∷ list) x place is =
    let here : (k == n) ≡ true = grind (arith, nat_tests) in
    let number : k ≡ n = omega arith in
    let same : y ≡ x = cc in
    rw here (ap (λ (found : ℕ × B). found ∷ filter (λ (found : ℕ × B). found.0 == n) (enumerate_from (k + 1) list)) (ap (λ (m : ℕ). (m, y)) number ∙ ap (λ (z : B). (n, z)) same) ∙ ap (λ (rest : List (ℕ × B)). (n, x) ∷ rest) (none_later (k + 1) n list (omega arith)))
the_numbered {B} k n (suc index) (y ∷ list) x place is =
    let other : (k == n) ≡ false = grind (arith, nat_tests) in
    rw other (the_numbered (k + 1) n index list x (omega arith) is)

-- ---- what was found, by where it is

is_found : (document : Document) (ordinal position : ℕ) (layer : Layer) (answer : Option (ℕ × (ℕ × Layer))) → slice_get (found_layers document) ordinal ≡ answer → slice_get (layer_positions document) ordinal ≡ Some position → slice_get document position ≡ Some (OfLayer layer) → answer ≡ Some (ordinal, (position, layer))
is_found document ordinal position layer None is placed there =
    absurd (let nowhere : None ≡ Some position = no_position_there layer_in document ordinal is ∙ placed in cc)
is_found document ordinal position layer (Some found) is placed there =
    let at = stands layer_in document ordinal found is in
    let number : found.0 ≡ ordinal = at.ordinal in
    let place : found.1.0 ≡ position =
    (let same : Some found.1.0 ≡ Some position = sym at.placed ∙ ap (slice_get (layer_positions document)) number ∙ placed in cc) in
    let item : slice_get document position ≡ Some (OfLayer found.1.1) = ap (slice_get document) (sym place) ∙ layer_there (slice_get document found.1.0) found.1.1 at.there in
    let same : found.1.1 ≡ layer = (let both : Some (OfLayer found.1.1) ≡ Some (OfLayer layer) = sym item ∙ there in cc) in
    ap (λ n. Some (n, found.1)) number ∙ ap (λ p. Some (ordinal, (p, found.1.1))) place ∙ ap (λ l. Some (ordinal, (position, l))) same

-- the layer at an ordinal, where it is
pub found_there : (document : Document) (ordinal position : ℕ) (layer : Layer) → slice_get (layer_positions document) ordinal ≡ Some position → slice_get document position ≡ Some (OfLayer layer) → slice_get (found_layers document) ordinal ≡ Some (ordinal, (position, layer))
found_there document ordinal position layer placed there =
    is_found document ordinal position layer (slice_get (found_layers document) ordinal) refl placed there

-- ---- the selected layers

numbered_there : {B : Type 0} (k index : ℕ) (list : List B) (found : ℕ × B) → slice_get (enumerate_from k list) index ≡ Some found → slice_get list index ≡ Some found.1
numbered_there k index [] found is = absurd cc
numbered_there {B} k zero (x ∷ list) found is = let same : (k, x) ≡ found = cc in ap (λ (f : ℕ × B). Some f.1) same
numbered_there k (suc index) (x ∷ list) found is = numbered_there (k + 1) index list found is

selected_alone : (choice : LayerChoice) (document : Document) (ordinal position : ℕ) (layer : Layer) → selected choice document ≡ Ok ordinal → slice_get (layer_positions document) ordinal ≡ Some position → slice_get document position ≡ Some (OfLayer layer) → selected_layers (TheLayer choice) document ≡ Ok ((ordinal, (position, layer)) ∷ [])
selected_alone choice document ordinal position layer selects placed there =
    let found = numbered_there 0 ordinal (placed_from layer_in 0 document) (ordinal, (position, layer)) (found_there document ordinal position layer placed there) in
    rw selects (ap Ok (the_numbered 0 ordinal ordinal (placed_from layer_in 0 document) (position, layer) (omega arith) found))

pub one_selected : (choice : LayerChoice) (document : Document) (found : FoundLayer) → IsFoundLayer choice document found → selected_layers (TheLayer choice) document ≡ Ok (found_layer_seen found ∷ [])
one_selected choice document found is = selected_alone choice document found.ordinal found.position (layer_of found.layer.now) is.selects is.placed is.there

pub none_selected : {refusal : Refusal} (choice : LayerChoice) (document : Document) → selected choice document ≡ Err refusal → selected_layers (TheLayer choice) document ≡ Err refusal
none_selected choice document refused = rw refused refl

-- the one selected layer, where it is
pub record TheOne (choice : LayerChoice) (document : Document) (ordinal : ℕ) : Type 0 where
  pub position : ℕ
  pub layer : Layer
  pub placed : slice_get (layer_positions document) ordinal ≡ Some position
  pub there : slice_get document position ≡ Some (OfLayer layer)
  pub alone : selected_layers (TheLayer choice) document ≡ Ok ((ordinal, (position, layer)) ∷ [])

pub the_one_selected : (choice : LayerChoice) (document : Document) (ordinal : ℕ) → selected choice document ≡ Ok ordinal → TheOne choice document ordinal
the_one_selected choice document ordinal selects =
    let count = found_count layer_in document in
    let within : ordinal < length (found_layers document) = omega (arith, selected_within choice document ordinal selects, count) in
    let found = get_or (found_layers document) ordinal (0, (0, record { tag = record { value = 0; width = 0 }; width = 0; items = [] })) in
    let is : slice_get (found_layers document) ordinal ≡ Some found = slice_get-get_or (found_layers document) ordinal _ within in
    let at = stands layer_in document ordinal found is in
    let number : found.0 ≡ ordinal = at.ordinal in
    let placed : slice_get (layer_positions document) ordinal ≡ Some found.1.0 = ap (slice_get (layer_positions document)) (sym number) ∙ at.placed in
    let there = layer_there (slice_get document found.1.0) found.1.1 at.there in
    record {
      position = found.1.0;
      layer = found.1.1;
      placed = placed;
      there = there;
      alone = selected_alone choice document ordinal found.1.0 found.1.1 selects placed there;
    }

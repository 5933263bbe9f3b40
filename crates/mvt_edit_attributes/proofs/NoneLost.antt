-- A feature that loses no pair has no steps.
use Rattle.std.proofs.Common.{Result, Ok, Err, ◌≡◌, ℕ, zero, suc, Bool, false, Option, Some, None, List, [], ◌∷◌, ◌++◌, length, map, option_map, slice_get, Vec, vec_len, refl, sym, ap, ◌∙◌, inl, inr, arith}
use Rattle.std.proofs.lemmas.Bool.{cases_Bool}
use Rattle.std.proofs.lemmas.List.{length-map}
use Rattle.std.specs.Prelude.{IfOk}
use Rattle.std.specs.List.{flat_map, list_any}
use Rattle.std.specs.Option.{option_map_or}
use Rattle.std.specs.Str.{bytes_eq}
use Rattle.mvt_document.specs.Plain.{Feature, Layer, LayerItem}
use Rattle.mvt_messages.specs.Found.{found_features}
use Rattle.mvt_messages.specs.Views.{keys}
use Rattle.mvt_meaning.specs.Ordinals.{count}
use Rattle.mvt_meaning.specs.Tagging.{is_key_at, pairs_among, removals, without_pairs}
use Rattle.mvt_meaning.proofs.Removals.{none_new}
use Rattle.mvt_edit_steps.specs.Decided.{is_any_gone}
use Rattle.mvt_edit_steps.specs.EachFeature.{feature_steps, layer_steps}
use Rattle.mvt_edit_steps.proofs.Carrying.{in_feature_at}
use Rattle.mvt_edit_steps.proofs.StepsPassed.{no_splices}
use Rattle.mvt_edit_attributes.specs.EachFeature.{pairs_go}

pub no_steps : (key : List ℕ) (items : List LayerItem) (layer : ℕ) (found : ℕ × (ℕ × Feature)) → is_any_gone (removals key items found.1.1.fields) ≡ false → feature_steps (pairs_go key items) layer found ≡ []
no_steps key items layer found none =
    let fields = found.1.1.fields in
    ap (map (in_feature_at layer found.1.0)) (no_splices 2 (removals key items fields) fields none (none_new key items fields) 0)

none_goes : (goes : ℕ → Bool) (pairs : List (ℕ × ℕ)) → count (λ pair. goes pair.0) pairs ≡ 0 → is_any_gone (without_pairs goes pairs) ≡ false
none_goes goes [] none = refl
none_goes goes (pair ∷ pairs) none =
    elim (cases_Bool (goes pair.0)) [
      | inl gone ↦ absurd (omega (arith, rw gone at none))
      | inr stays ↦ (let rest = rw stays at none in rw stays (none_goes goes pairs rest))
    ]

-- if no pair is counted, no number goes
pub none_counted : (goes : ℕ → Bool) (found : Option (List (ℕ × ℕ))) (decisions : List (Option ℕ)) (n : ℕ) → option_map (without_pairs goes) found ≡ Some decisions → option_map (count (λ pair. goes pair.0)) found ≡ Some n → n ≡ 0 → is_any_gone decisions ≡ false
none_counted goes None decisions n decided counted none = absurd cc
none_counted goes (Some pairs) decisions n decided counted none =
    let same : without_pairs goes pairs ≡ decisions = cc in
    let few : count (λ pair. goes pair.0) pairs ≡ n = cc in
    ap is_any_gone (sym same) ∙ none_goes goes pairs (few ∙ none)

-- ---- a layer none of whose keys is these bytes

none_at : (key : List ℕ) (keys : List (List ℕ)) → list_any (λ is. is) (map (bytes_eq key) keys) ≡ false → (ordinal : ℕ) → option_map_or (bytes_eq key) (slice_get keys ordinal) false ≡ false
none_at key [] none zero = refl
none_at key [] none (suc ordinal) = refl
none_at key (first ∷ keys) none zero =
    elim (cases_Bool (bytes_eq key first)) [
      | inl is ↦ absurd (let some = rw is at none in cc)
      | inr other ↦ other
    ]
none_at key (first ∷ keys) none (suc ordinal) =
    elim (cases_Bool (bytes_eq key first)) [
      | inl is ↦ absurd (let some = rw is at none in cc)
      | inr other ↦ (let rest = rw other at none in none_at key keys rest ordinal)
    ]

none_without : (goes : ℕ → Bool) → ((ordinal : ℕ) → goes ordinal ≡ false) → (pairs : List (ℕ × ℕ)) → is_any_gone (without_pairs goes pairs) ≡ false
none_without goes none [] = refl
none_without goes none (pair ∷ pairs) = let stays = none pair.0 in rw stays (none_without goes none pairs)

none_removed : (goes : ℕ → Bool) → ((ordinal : ℕ) → goes ordinal ≡ false) → (found : Option (List (ℕ × ℕ))) → is_any_gone (option_map_or (without_pairs goes) found []) ≡ false
none_removed goes none None = refl
none_removed goes none (Some pairs) = none_without goes none pairs

none_in : (key : List ℕ) (layer : Layer) (position : ℕ) → list_any (λ is. is) (map (bytes_eq key) (keys layer)) ≡ false → (found : List (ℕ × (ℕ × Feature))) → flat_map (feature_steps (pairs_go key layer.items) position) found ≡ []
none_in key layer position none [] = refl
none_in key layer position none (first ∷ found) =
    ap (λ steps. steps ++ flat_map (feature_steps (pairs_go key layer.items) position) found) (no_steps key layer.items position first (none_removed (is_key_at layer.items key) (none_at key (keys layer) none) (pairs_among layer.items first.1.1.fields)))
    ∙ none_in key layer position none found

-- .. of which no feature has steps
pub none_named : (key : List ℕ) (at : ℕ × (ℕ × Layer)) → list_any (λ is. is) (map (bytes_eq key) (keys at.1.1)) ≡ false → layer_steps (pairs_go key) at ≡ []
none_named key at none = none_in key at.1.1 at.1.0 none (found_features at.1.1.items)

-- what holds, holds for each value
pub of_any : {T E P : Type 0} → P → (r : Result T E) → IfOk r (λ value. P)
of_any holds (Ok value) = holds
of_any holds (Err error) = tt

-- each key of a layer is named or not
pub named_each : {Z : Type 0} (key : List ℕ) (seen layer : Layer) (named : Vec Bool Z) → named.items ≡ map (bytes_eq key) (keys seen) → seen ≡ layer → vec_len named ≡ length (keys layer)
named_each key seen layer named is same =
    let long = ap length (is ∙ ap (λ l. map (bytes_eq key) (keys l)) same) ∙ length-map (keys layer) (bytes_eq key) in
    omega (arith, long)

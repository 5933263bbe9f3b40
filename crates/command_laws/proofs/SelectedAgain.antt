-- The same layer and the same feature are selected, where one layer or one feature changes except for its name or its
-- id.
use Rattle.std.proofs.Common.{◌≡◌, ◌≢◌, ℕ, suc, ◌+◌, Bool, false, cond, ◌==◌, Some, option_map, Result, Ok, Err, List, [], ◌∷◌, length, slice_get, refl, sym, ap, ◌∙◌, inl, inr}
use Rattle.std.specs.Prelude.{nat_lt}
use Rattle.std.proofs.lemmas.Bool.{cases_Bool, eq-eqb, eqb-true}
use Rattle.std.specs.Option.{option_map_or}
use Rattle.std.specs.Str.{bytes_eq}
use Rattle.mvt_document.specs.Plain.{Feature, Layer, Document}
use Rattle.mvt_meaning.specs.Command.{LayerChoice, AtOrdinal, Named, FeatureChoice, FeatureAtOrdinal, WithId}
use Rattle.mvt_messages.specs.Views.{features, has_id, id_of, is_named, layers, name_of, the_one}
use Rattle.mvt_meaning.specs.Selection.{selected, selected_feature}
use Rattle.mvt_meaning.specs.declared.refusal.Refusal.{Refusal}
use Rattle.mvt_meaning.specs.declared.refusal.Refusal.TheVariants.{AmbiguousFeature, AmbiguousLayer, NoFeature, NoLayer}
use Rattle.mvt_meaning.proofs.Positions.{positions_from, positions_pass, positions_skip}

-- ---- lists in which one item differs

-- they are alike in what that item keeps
module _ {A B : Type 0} (f : A → B) (xs ys : List A) (at : ℕ) (x y : A) (was : slice_get xs at ≡ Some x) (is : slice_get ys at ≡ Some y) (others : (other : ℕ) → other ≢ at → slice_get ys other ≡ slice_get xs other) (same : f y ≡ f x) where
  each_same : (n : ℕ) → option_map f (slice_get ys n) ≡ option_map f (slice_get xs n)
  each_same n =
      elim (cases_Bool (n == at)) [
        | inl here ↦ (
            let e : n ≡ at = eqb-true n at here in
            ap (λ (m : ℕ). option_map f (slice_get ys m)) e
            ∙ ap (option_map f) is
            ∙ ap Some same
            ∙ sym (ap (option_map f) was)
            ∙ sym (ap (λ (m : ℕ). option_map f (slice_get xs m)) e)
            )
        | inr apart ↦ ap (option_map f) (others n (λ e. let here = eq-eqb n at e in cc))
      ]

lengths_same : {A B : Type 0} (f : A → B) (xs ys : List A) → ((n : ℕ) → option_map f (slice_get ys n) ≡ option_map f (slice_get xs n)) → length ys ≡ length xs
lengths_same f [] [] same = refl
lengths_same f [] (y ∷ ys) same = absurd (let first = same 0 in cc)
lengths_same f (x ∷ xs) [] same = absurd (let first = same 0 in cc)
lengths_same f (x ∷ xs) (y ∷ ys) same = ap suc (lengths_same f xs ys (λ n. same (suc n)))

positions_same : {A : Type 0} (passes : A → Bool) (n : ℕ) (xs ys : List A) → ((i : ℕ) → option_map passes (slice_get ys i) ≡ option_map passes (slice_get xs i)) → positions_from passes n ys ≡ positions_from passes n xs
positions_same passes n [] [] same = refl
positions_same passes n [] (y ∷ ys) same = absurd (let first = same 0 in cc)
positions_same passes n (x ∷ xs) [] same = absurd (let first = same 0 in cc)
positions_same passes n (x ∷ xs) (y ∷ ys) same =
    let first : passes y ≡ passes x = let both = same 0 in cc in
    let more = positions_same passes (n + 1) xs ys (λ i. same (suc i)) in
    elim (cases_Bool (passes x)) [
      | inl pass ↦ positions_pass passes n y ys (first ∙ pass) ∙ ap (λ rest. n ∷ rest) more ∙ sym (positions_pass passes n x xs pass)
      | inr skip ↦ positions_skip passes n y ys (first ∙ skip) ∙ more ∙ sym (positions_skip passes n x xs skip)
    ]

-- ---- the same layer and the same feature are selected

pub layer_again : (choice : LayerChoice) (old new : Document) (ordinal : ℕ) (former present : Layer) → slice_get (layers old) ordinal ≡ Some former → slice_get (layers new) ordinal ≡ Some present → ((other : ℕ) → other ≢ ordinal → slice_get (layers new) other ≡ slice_get (layers old) other) → name_of present ≡ name_of former → selected choice new ≡ selected choice old
layer_again (AtOrdinal n) old new ordinal former present was is others same =
    ap (λ (count : ℕ). cond {A = Result ℕ Refusal} (nat_lt n count) (Ok n) (Err NoLayer)) (lengths_same name_of (layers old) (layers new) (each_same name_of (layers old) (layers new) ordinal former present was is others same))
layer_again (Named name) old new ordinal former present was is others same =
    let named : is_named name present ≡ is_named name former = ap (λ found. option_map_or (bytes_eq name) found false) same in
    ap (the_one NoLayer AmbiguousLayer) (positions_same (is_named name) 0 (layers old) (layers new) (each_same (is_named name) (layers old) (layers new) ordinal former present was is others named))

pub feature_again : (choice : FeatureChoice) (old new : Layer) (ordinal : ℕ) (former present : Feature) → slice_get (features old) ordinal ≡ Some former → slice_get (features new) ordinal ≡ Some present → ((other : ℕ) → other ≢ ordinal → slice_get (features new) other ≡ slice_get (features old) other) → id_of present ≡ id_of former → selected_feature choice new ≡ selected_feature choice old
feature_again (FeatureAtOrdinal n) old new ordinal former present was is others same =
    ap (λ (count : ℕ). cond {A = Result ℕ Refusal} (nat_lt n count) (Ok n) (Err NoFeature)) (lengths_same id_of (features old) (features new) (each_same id_of (features old) (features new) ordinal former present was is others same))
feature_again (WithId id) old new ordinal former present was is others same =
    let has : has_id id present ≡ has_id id former = ap (λ found. option_map_or (λ (n : ℕ). n == id) found false) same in
    ap (the_one NoFeature AmbiguousFeature) (positions_same (has_id id) 0 (features old) (features new) (each_same (has_id id) (features old) (features new) ordinal former present was is others has))

-- The same layer is selected where the names are the same, and the same feature where the ids are.
use Rattle.std.proofs.Common.{◌≡◌, ℕ, ◌+◌, Bool, false, ◌==◌, cond, Option, Result, Ok, Err, List, [], ◌∷◌, length, map, filter, nat_lt, refl, sym, ap, ◌∙◌, inl, inr}
use Rattle.std.proofs.lemmas.Bool.{cases_Bool}
use Rattle.std.proofs.lemmas.List.{length-map}
use Rattle.std.specs.List.{enumerate_from}
use Rattle.std.specs.Option.{option_map_or}
use Rattle.std.specs.Str.{bytes_eq}
use Rattle.mvt_document.specs.Plain.{Layer, Document}
use Rattle.mvt_meaning.specs.Command.{LayerChoice, AtOrdinal, Named, FeatureChoice, FeatureAtOrdinal, WithId}
use Rattle.mvt_messages.specs.Views.{features, id_of, layers, name_of, the_one}
use Rattle.mvt_meaning.specs.Selection.{selected, selected_feature}
use Rattle.mvt_meaning.specs.declared.refusal.Refusal.{Refusal}
use Rattle.mvt_meaning.specs.declared.refusal.Refusal.TheVariants.{AmbiguousFeature, AmbiguousLayer, NoFeature, NoLayer}

tested_by : {A B : Type 0} (view : A → B) (passes : B → Bool) (n : ℕ) (list : List A) → map (λ (p : ℕ × A). p.0) (filter (λ (p : ℕ × A). passes (view p.1)) (enumerate_from n list)) ≡ map (λ (p : ℕ × B). p.0) (filter (λ (p : ℕ × B). passes p.1) (enumerate_from n (map view list)))
tested_by view passes n [] = refl
tested_by view passes n (x ∷ list) =
    elim (cases_Bool (passes (view x))) [
      | inl pass ↦ rw pass (ap (λ more. n ∷ more) (tested_by view passes (n + 1) list))
      | inr skip ↦ rw skip (tested_by view passes (n + 1) list)
    ]

-- the ordinals of the items whose view passes depend only on the views
same_ordinals : {A B : Type 0} (view : A → B) (passes : B → Bool) (one other : List A) → map view one ≡ map view other → map (λ (p : ℕ × A). p.0) (filter (λ (p : ℕ × A). passes (view p.1)) (enumerate_from 0 one)) ≡ map (λ (p : ℕ × A). p.0) (filter (λ (p : ℕ × A). passes (view p.1)) (enumerate_from 0 other))
same_ordinals {A} {B} view passes one other same =
    tested_by view passes 0 one
    ∙ ap (λ (list : List B). map (λ (p : ℕ × B). p.0) (filter (λ (p : ℕ × B). passes p.1) (enumerate_from 0 list))) same
    ∙ sym (tested_by view passes 0 other)

same_length : {A B : Type 0} (view : A → B) (one other : List A) → map view one ≡ map view other → length one ≡ length other
same_length view one other same = sym (length-map one view) ∙ ap length same ∙ length-map other view

pub same_layer : (choice : LayerChoice) (one other : Document) → map name_of (layers one) ≡ map name_of (layers other) → selected choice one ≡ selected choice other
same_layer (AtOrdinal ordinal) one other same =
    ap (λ (n : ℕ). cond {A = Result ℕ Refusal} (nat_lt ordinal n) (Ok ordinal) (Err NoLayer)) (same_length name_of (layers one) (layers other) same)
same_layer (Named name) one other same =
    ap (the_one NoLayer AmbiguousLayer) (same_ordinals name_of (λ (found : Option (List ℕ)). option_map_or (bytes_eq name) found false) (layers one) (layers other) same)

pub same_feature : (choice : FeatureChoice) (one other : Layer) → map id_of (features one) ≡ map id_of (features other) → selected_feature choice one ≡ selected_feature choice other
same_feature (FeatureAtOrdinal ordinal) one other same =
    ap (λ (n : ℕ). cond {A = Result ℕ Refusal} (nat_lt ordinal n) (Ok ordinal) (Err NoFeature)) (same_length id_of (features one) (features other) same)
same_feature (WithId id) one other same =
    ap (the_one NoFeature AmbiguousFeature) (same_ordinals id_of (λ (found : Option ℕ). option_map_or (λ found. found == id) found false) (features one) (features other) same)

-- The features whose tags make no pairs, as they are found one after the other.
use Rattle.std.proofs.Common.{◌≡◌, ℕ, ◌+◌, Bool, true, false, not, is_some, Err, List, [], ◌∷◌, map, filter, refl, sym, ap, ◌∙◌, inl, inr}
use Rattle.std.proofs.lemmas.Bool.{cases_Bool}
use Rattle.std.proofs.lemmas.List.{append-nil}
use Rattle.std.proofs.lemmas.Simd.{map-map}
use Rattle.std.specs.List.{enumerate_from}
use Rattle.mvt_document.specs.Plain.{Feature, Layer}
use Rattle.mvt_messages.specs.Attributes.{pairs_of}
use Rattle.mvt_messages.specs.Found.{found_features, placed_from}
use Rattle.mvt_messages.specs.Views.{feature_in, features, ordinals_of}
use Rattle.mvt_layers.proofs.Placing.{placed_items}
use Rattle.mvt_meaning.specs.Meaning.{refuse_first}
use Rattle.mvt_meaning.specs.Tagging.{unreadable}
use Rattle.mvt_meaning.specs.declared.refusal.Refusal.{Refusal}
use Rattle.mvt_meaning.specs.declared.refusal.Refusal.TheVariants.{BadTags}

-- ---- the ordinals of those among what is found

module _ {B : Type 0} (passes : B → Bool) where
  numbered_ordinals : (n : ℕ) (placed : List (ℕ × B)) → map (λ (p : ℕ × B). p.0) (filter (λ (p : ℕ × B). passes p.1) (enumerate_from n (map (λ (p : ℕ × B). p.1) placed))) ≡ map (λ (f : ℕ × (ℕ × B)). f.0) (filter (λ (f : ℕ × (ℕ × B)). passes f.1.1) (enumerate_from n placed))
  numbered_ordinals n [] = refl
  numbered_ordinals n (at ∷ placed) =
      elim (cases_Bool (passes at.1)) [
        | inl pass ↦ rw pass (ap (λ more. n ∷ more) (numbered_ordinals (n + 1) placed))
        | inr skip ↦ rw skip (numbered_ordinals (n + 1) placed)
      ]

-- ---- the features of a layer

-- the tags of the feature make no pairs
abbrev is_bad : Layer → Feature → Bool
is_bad layer feature = not (is_some (pairs_of layer feature))

-- among these features of a layer of this ordinal, those whose tags make no pairs, each by both ordinals
abbrev pub bad_among : Layer → ℕ → List (ℕ × (ℕ × Feature)) → List (ℕ × ℕ)
bad_among layer ordinal found = map (λ (f : ℕ × (ℕ × Feature)). (ordinal, f.0)) (filter (λ (f : ℕ × (ℕ × Feature)). is_bad layer f.1.1) found)

pub readable_more : (layer : Layer) (ordinal : ℕ) (found : ℕ × (ℕ × Feature)) (more : List (ℕ × (ℕ × Feature))) → is_some (pairs_of layer found.1.1) ≡ true → bad_among layer ordinal (found ∷ more) ≡ bad_among layer ordinal more
readable_more layer ordinal found more readable = rw readable refl

pub bad_first : (layer : Layer) (ordinal : ℕ) (found : ℕ × (ℕ × Feature)) (more : List (ℕ × (ℕ × Feature))) → is_some (pairs_of layer found.1.1) ≡ false → bad_among layer ordinal (found ∷ more) ≡ (ordinal, found.0) ∷ bad_among layer ordinal more
bad_first layer ordinal found more none = rw none refl

-- those of one layer
pub unreadable_in : (ordinal position : ℕ) (layer : Layer) → unreadable ((ordinal, (position, layer)) ∷ []) ≡ bad_among layer ordinal (found_features layer.items)
unreadable_in ordinal position layer =
    let bad = is_bad layer in
    let placed = placed_from feature_in 0 layer.items in
    append-nil (map (λ (feature : ℕ). (ordinal, feature)) (ordinals_of bad (features layer)))
    ∙ ap (λ list. map (λ (feature : ℕ). (ordinal, feature)) (ordinals_of bad list)) (sym (placed_items feature_in 0 layer.items))
    ∙ ap (map (λ (feature : ℕ). (ordinal, feature))) (numbered_ordinals bad 0 placed)
    ∙ map-map (λ (feature : ℕ). (ordinal, feature)) (λ (f : ℕ × (ℕ × Feature)). f.0) (filter (λ (f : ℕ × (ℕ × Feature)). bad f.1.1) (found_features layer.items))

-- the first of them is refused
pub feature_refused : (ordinal position : ℕ) (layer : Layer) (found : ℕ × (ℕ × Feature)) (more : List (ℕ × (ℕ × Feature))) (refusal : Refusal) → bad_among layer ordinal (found ∷ more) ≡ bad_among layer ordinal (found_features layer.items) → is_some (pairs_of layer found.1.1) ≡ false → refusal ≡ BadTags ordinal found.0 → refuse_first (unreadable ((ordinal, (position, layer)) ∷ [])) ≡ Err refusal
feature_refused ordinal position layer found more refusal left none is =
    ap refuse_first (unreadable_in ordinal position layer ∙ sym left ∙ bad_first layer ordinal found more none) ∙ ap Err (sym is)

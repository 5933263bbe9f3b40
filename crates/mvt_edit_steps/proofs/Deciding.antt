-- The decisions on the numbers of pairs, one pair after the other; tags that make pairs, and that make none.
use Rattle.std.proofs.Common.{◌≡◌, ℕ, ◌+◌, Bool, true, false, cond, Option, Some, None, List, [], ◌∷◌, ◌++◌, is_some, length, filter, option_map, append_assoc, refl, sym, ap, ◌∙◌, inl, inr, arith}
use Rattle.std.proofs.lemmas.Bool.{cases_Bool}
use Rattle.mvt_document.specs.Plain.{Feature, Layer}
use Rattle.mvt_messages.specs.Numbers.{and_more, numbers}
use Rattle.mvt_messages.specs.Tags.{plain_pairs, tag_pairs}
use Rattle.mvt_messages.specs.Views.{keys, values}
use Rattle.mvt_layers.proofs.Pairing.{tags_are_pairs}
use Rattle.mvt_meaning.specs.Tagging.{pairs_among}
use Rattle.mvt_edit_steps.specs.Decided.{counted_by, decided_by}

pub counted_first : {A : Type 0} (test : A → Bool) (x : A) (xs : List A) → length (filter test (x ∷ xs)) ≡ cond (test x) 1 0 + length (filter test xs)
counted_first test x xs = elim (cases_Bool (test x)) [ inl pass ↦ rw pass (omega arith) | inr skip ↦ rw skip (omega arith) ]

-- ---- one more pair

module _ (said : ℕ × ℕ → Option ℕ × Option ℕ × Bool) where
  -- these pairs after what is decided so far, of which `n` pairs count
  abbrev pub decided_after : List (Option ℕ) → List (ℕ × ℕ) → List (Option ℕ)
  decided_after front pairs = front ++ decided_by said pairs

  abbrev pub counted_after : ℕ → List (ℕ × ℕ) → ℕ
  counted_after n pairs = n + counted_by said pairs

  pub decided_more : (front : List (Option ℕ)) (pair : ℕ × ℕ) (rest : Option (List (ℕ × ℕ))) → option_map (decided_after front) (and_more pair rest) ≡ option_map (decided_after (front ++ (said pair).0 ∷ (said pair).1 ∷ [])) rest
  decided_more front pair None = refl
  decided_more front pair (Some more) = ap Some (sym (append_assoc front ((said pair).0 ∷ (said pair).1 ∷ []) (decided_by said more)))

  pub decided_none : (rest : Option (List (ℕ × ℕ))) → option_map (decided_after []) rest ≡ option_map (decided_by said) rest
  decided_none None = refl
  decided_none (Some more) = refl

  pub counted_more : (n : ℕ) (pair : ℕ × ℕ) (rest : Option (List (ℕ × ℕ))) → option_map (counted_after n) (and_more pair rest) ≡ option_map (counted_after (n + cond (said pair).2 1 0)) rest
  counted_more n pair None = refl
  counted_more n pair (Some more) =
      let first = counted_first (λ (pair : ℕ × ℕ). (said pair).2) pair more in
      let same : n + counted_by said (pair ∷ more) ≡ n + cond (said pair).2 1 0 + counted_by said more = omega (arith, first) in
      ap Some same

  pub counted_none : (rest : Option (List (ℕ × ℕ))) → option_map (counted_after 0) rest ≡ option_map (counted_by said) rest
  counted_none None = refl
  counted_none (Some more) = let same : 0 + counted_by said more ≡ counted_by said more = omega arith in ap Some same

  -- what is decided and counted, once what is left of the pairs follows, is that of all
  pub record SoFarDecided (left all : Option (List (ℕ × ℕ))) (decisions : List (Option ℕ)) (n : ℕ) : Type 0 where
    pub decided : option_map (decided_after decisions) left ≡ option_map (decided_by said) all
    pub counted : option_map (counted_after n) left ≡ option_map (counted_by said) all

-- ---- tags that make pairs

pub more_some : {A : Type 0} (x : A) (rest : Option (List A)) → is_some (and_more x rest) ≡ is_some rest
more_some x None = refl
more_some x (Some more) = refl

-- if tags are decided on, they make pairs
pub then_pairs : {A B : Type 0} (f : A → B) (found : Option A) (made : B) → option_map f found ≡ Some made → is_some found ≡ true
then_pairs f None made is = absurd cc
then_pairs f (Some x) made is = refl

-- if tags are bad by the sizes of a layer, they make no pairs
pub no_pairs : (layer : Layer) (feature : Feature) (key_count value_count : ℕ) → key_count ≡ length (keys layer) → value_count ≡ length (values layer) → plain_pairs (tag_pairs key_count value_count (numbers 2 feature.fields)) ≡ None → is_some (pairs_among layer.items feature.fields) ≡ false
no_pairs layer feature key_count value_count is_keys is_values bad =
    let by_layer : plain_pairs (tag_pairs (length (keys layer)) (length (values layer)) (numbers 2 feature.fields)) ≡ None = rw (is_keys, is_values) at bad in
    ap (λ found. is_some found) (sym (tags_are_pairs layer feature) ∙ by_layer)

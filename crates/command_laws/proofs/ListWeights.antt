-- What some items of a list weigh is within what all of them weigh.
use Rattle.std.proofs.Common.{◌≡◌, ℕ, zero, suc, ◌+◌, ◌<◌, ◌≤◌, Bool, true, false, ◌==◌, Option, Some, None, List, [], ◌∷◌, ◌++◌, length, length-append, map, filter, slice_get, sum_by, refl, ap, ◌∙◌, inl, inr, arith}
use Rattle.std.specs.List.{enumerate_from, flat_map, last_or}
use Rattle.std.specs.Option.{option_map_or}
use Rattle.std.proofs.lemmas.Bool.{cases_Bool, cond_both, eq-eqb, ne_eqb}
use Rattle.std.proofs.lemmas.List.Concat.{flat_map-append}
use Rattle.std.proofs.lemmas.List.Sums.{sum_by-cons}
use Rattle.mvt_meaning.specs.Weights.{weigh, weigh_last, weigh_nth}
use Rattle.command_laws.proofs.Lengths.{filter_no_longer}

module _ {A : Type 0} (bytes : A → List ℕ) where
  pub weigh_joined : (xs ys : List A) → weigh bytes (xs ++ ys) ≡ weigh bytes xs + weigh bytes ys
  weigh_joined xs ys = ap length (flat_map-append bytes xs ys) ∙ length-append (flat_map bytes xs) (flat_map bytes ys)

  got_within : (ordinal : ℕ) (xs : List A) → option_map_or (λ item. length (bytes item)) (slice_get xs ordinal) 0 ≤ weigh bytes xs
  got_within ordinal [] = omega arith
  got_within zero (x ∷ xs) = omega (arith, length-append (bytes x) (flat_map bytes xs))
  got_within (suc ordinal) (x ∷ xs) = omega (arith, got_within ordinal xs, length-append (bytes x) (flat_map bytes xs))

  -- the item of an ordinal
  pub nth_within : (passes : A → Bool) (ordinal : ℕ) (xs : List A) → weigh_nth bytes passes ordinal xs ≤ weigh bytes xs
  nth_within passes ordinal xs = omega (arith, got_within ordinal (filter passes xs), filter_no_longer bytes passes xs)

  last_of : (earlier : Option A) (xs : List A) → option_map_or (λ item. length (bytes item)) (last_or earlier xs) 0 ≤ option_map_or (λ item. length (bytes item)) earlier 0 + weigh bytes xs
  last_of earlier [] = omega arith
  last_of earlier (x ∷ xs) = omega (arith, last_of (Some x) xs, length-append (bytes x) (flat_map bytes xs))

  -- the last that passes, within those that pass
  pub last_passing : (passes : A → Bool) (xs : List A) → weigh_last bytes passes xs ≤ weigh bytes (filter passes xs)
  last_passing passes xs = omega (arith, last_of None (filter passes xs))

  pub last_within : (passes : A → Bool) (xs : List A) → weigh_last bytes passes xs ≤ weigh bytes xs
  last_within passes xs = omega (arith, last_passing passes xs, filter_no_longer bytes passes xs)

  -- the items that pass one test, and those that pass another that none of them passes
  pub both_within : (passes also : A → Bool) → ((x : A) → passes x ≡ true → also x ≡ false) → (xs : List A) → weigh bytes (filter passes xs) + weigh bytes (filter also xs) ≤ weigh bytes xs
  both_within passes also apart [] = omega arith
  both_within passes also apart (x ∷ xs) =
      let rest = both_within passes also apart xs in
      let all = length-append (bytes x) (flat_map bytes xs) in
      elim (cases_Bool (passes x)) [
        | inl pass ↦ (let none = apart x pass in rw (pass, none) (omega (arith, rest, all, length-append (bytes x) (flat_map bytes (filter passes xs)))))
        | inr skip ↦ rw skip (elim (cases_Bool (also x)) [
          | inl pass ↦ rw pass (omega (arith, rest, all, length-append (bytes x) (flat_map bytes (filter also xs))))
          | inr none ↦ rw none (omega (arith, rest, all))
        ])
      ]

  -- those that are picked by their ordinals
  pub picked_within : (picks : ℕ → Bool) (ordinal : ℕ) (xs : List A) → weigh bytes (map (λ (entry : ℕ × A). entry.1) (filter (λ (entry : ℕ × A). picks entry.0) (enumerate_from ordinal xs))) ≤ weigh bytes xs
  picked_within picks ordinal [] = omega arith
  picked_within picks ordinal (x ∷ xs) =
      let later = filter (λ (entry : ℕ × A). picks entry.0) (enumerate_from (ordinal + 1) xs) in
      let rest = picked_within picks (ordinal + 1) xs in
      let all = length-append (bytes x) (flat_map bytes xs) in
      cond_both (picks ordinal) ((ordinal, x) ∷ later) later (λ found. weigh bytes (map (λ (entry : ℕ × A). entry.1) found) ≤ weigh bytes (x ∷ xs))
      (λ _. omega (arith, rest, all, length-append (bytes x) (flat_map bytes (map (λ (entry : ℕ × A). entry.1) later))))
      (λ _. omega (arith, rest, all))

  -- what is seen of joined lists weighs what is seen of each of them
  pub seen_weighs : {P B : Type 0} (seen : List P → List A) → seen [] ≡ [] → ((xs ys : List P) → seen (xs ++ ys) ≡ seen xs ++ seen ys) → (parts : B → List P) (list : List B) → weigh bytes (seen (flat_map parts list)) ≡ sum_by (λ one. weigh bytes (seen (parts one))) list
  seen_weighs seen none both parts [] = ap (weigh bytes) none
  seen_weighs seen none both parts (one ∷ list) =
      let first = parts one in
      let others = flat_map parts list in
      omega (arith, ap (weigh bytes) (both first others), weigh_joined (seen first) (seen others), seen_weighs seen none both parts list, sum_by-cons (λ one. weigh bytes (seen (parts one))) one list)

-- ---- the one of an ordinal, among numbered items

module _ {A : Type 0} (weight : A → ℕ) where
  -- the items of this ordinal, where the first has that one
  abbrev of_ordinal : ℕ → ℕ → List A → List (ℕ × A)
  of_ordinal at ordinal xs = filter (λ (found : ℕ × A). found.0 == at) (enumerate_from ordinal xs)

  none_found : (at ordinal : ℕ) (xs : List A) → at < ordinal → sum_by (λ (found : ℕ × A). weight found.1) (of_ordinal at ordinal xs) ≡ 0
  none_found at ordinal [] past = refl
  none_found at ordinal (x ∷ xs) past =
      let other : (ordinal == at) ≡ false = ne_eqb ordinal at (λ same. omega arith) in
      rw other (none_found at (ordinal + 1) xs (omega arith))

  pub one_found : (at ordinal index : ℕ) (xs : List A) → at ≡ ordinal + index → sum_by (λ (found : ℕ × A). weight found.1) (of_ordinal at ordinal xs) ≤ option_map_or weight (slice_get xs index) 0
  one_found at ordinal index [] is = omega arith
  one_found at ordinal zero (x ∷ xs) is =
      let here : (ordinal == at) ≡ true = eq-eqb ordinal at (omega arith) in
      rw here (omega (arith, sum_by-cons (λ (found : ℕ × A). weight found.1) (ordinal, x) (of_ordinal at (ordinal + 1) xs), none_found at (ordinal + 1) xs (omega arith)))
  one_found at ordinal (suc index) (x ∷ xs) is =
      let other : (ordinal == at) ≡ false = ne_eqb ordinal at (λ same. omega arith) in
      rw other (one_found at (ordinal + 1) index xs (omega arith))

-- Lists of which some entries stay, by their ordinals: which these are, and which ordinals they then have.
use Rattle.std.proofs.Common.{◌≡◌, ℕ, zero, suc, ◌+◌, ◌-◌, ◌<◌, ◌≤◌, Bool, true, false, cond, is_some, Option, Some, None, List, [], ◌∷◌, length, map, filter, get_or, refl, ap, ◌∙◌, inl, inr, subst, arith}
use Rattle.mvt_document.proofs.Options.{none_is}
use Rattle.std.proofs.lemmas.Bool.{cases_Bool}
use Rattle.std.specs.List.{cons_option, enumerate_from, filter_map}
use Rattle.mvt_meaning.specs.Compaction.{new_ordinal, staying}
use Rattle.mvt_meaning.proofs.Compaction.{next_ordinal}

-- ---- new ordinals

module _ (stays : ℕ → Bool) where
  next_stays : (n : ℕ) → stays n ≡ true → new_ordinal stays (n + 1) ≡ new_ordinal stays n + 1
  next_stays n is = next_ordinal stays n ∙ ap (λ (b : Bool). new_ordinal stays n + cond b 1 0) is

  next_goes : (n : ℕ) → stays n ≡ false → new_ordinal stays (n + 1) ≡ new_ordinal stays n
  next_goes n is = let same : new_ordinal stays n + 0 ≡ new_ordinal stays n = omega arith in next_ordinal stays n ∙ ap (λ (b : Bool). new_ordinal stays n + cond b 1 0) is ∙ same

  pub ordinals_grow : (n k : ℕ) → new_ordinal stays n ≤ new_ordinal stays (n + k)
  ordinals_grow n zero = let e : n + 0 ≡ n = omega arith in omega (arith, ap (new_ordinal stays) e)
  ordinals_grow n (suc k) = let e : n + suc k ≡ suc (n + k) = omega arith in omega (arith, ap (new_ordinal stays) e, ordinals_grow n k)

  -- an ordinal that stays is below the new one of each that is above it
  pub ordinal_below : (n count : ℕ) → n < count → stays n ≡ true → new_ordinal stays n < new_ordinal stays count
  ordinal_below n count below is =
      let k = count - (n + 1) in
      let e : n + 1 + k ≡ count = omega arith in
      omega (arith, next_stays n is, ordinals_grow (n + 1) k, ap (new_ordinal stays) e)

  -- where all below a count stay, none changes
  pub all_same : (count : ℕ) → ((n : ℕ) → n < count → stays n ≡ true) → (n : ℕ) → n ≤ count → new_ordinal stays n ≡ n
  all_same count all zero within = refl
  all_same count all (suc n) within =
      let less : new_ordinal stays n ≡ n = all_same count all n (omega arith) in
      let step : new_ordinal stays (n + 1) ≡ new_ordinal stays n + 1 = next_stays n (all n (omega arith)) in
      let e : n + 1 ≡ suc n = omega arith in
      omega (arith, less, step, ap (new_ordinal stays) e)

-- ---- entries alone

-- those of the entries whose ordinals stay, where the first has this one
abbrev pub kept : {A : Type 0} → (ℕ → Bool) → ℕ → List A → List A
kept stays n entries = staying (λ entry. true) stays n entries

module _ {A : Type 0} (stays : ℕ → Bool) where
  pub length-kept : (n : ℕ) (xs : List A) → new_ordinal stays n + length (kept stays n xs) ≡ new_ordinal stays (n + length xs)
  length-kept n [] = let e : n + 0 ≡ n = omega arith in omega (arith, ap (new_ordinal stays) e)
  length-kept n (x ∷ xs) =
      let e : n + suc (length xs) ≡ n + 1 + length xs = omega arith in
      let more = length-kept (n + 1) xs in
      elim (cases_Bool (stays n)) [
        | inl here ↦ rw here (omega (arith, more, next_stays stays n here, ap (new_ordinal stays) e))
        | inr goes ↦ rw goes (omega (arith, more, next_goes stays n goes, ap (new_ordinal stays) e))
      ]

  -- an entry that stays is found at its new ordinal
  pub got_kept : (d : A) (n : ℕ) (xs : List A) (k j : ℕ) → new_ordinal stays n + j ≡ new_ordinal stays (n + k) → stays (n + k) ≡ true → get_or (kept stays n xs) j d ≡ get_or xs k d
  got_kept d n [] zero zero at is = refl
  got_kept d n [] zero (suc j) at is = refl
  got_kept d n [] (suc k) zero at is = refl
  got_kept d n [] (suc k) (suc j) at is = refl
  got_kept d n (x ∷ xs) zero j at is =
      let e : n + 0 ≡ n = omega arith in
      let here : stays n ≡ true = subst (λ m. stays m ≡ true) e is in
      let first : j ≡ 0 = omega (arith, at, ap (new_ordinal stays) e) in
      rw (here, first) refl
  got_kept d n (x ∷ xs) (suc k) zero at is =
      let e : n + suc k ≡ n + 1 + k = omega arith in
      let later : stays (n + 1 + k) ≡ true = subst (λ m. stays m ≡ true) e is in
      elim (cases_Bool (stays n)) [
        | inl here ↦ absurd (omega (arith, at, next_stays stays n here, ordinals_grow stays (n + 1) k, ap (new_ordinal stays) e))
        | inr goes ↦ rw goes (got_kept d (n + 1) xs k 0 (omega (arith, at, next_goes stays n goes, ap (new_ordinal stays) e)) later)
      ]
  got_kept d n (x ∷ xs) (suc k) (suc j) at is =
      let e : n + suc k ≡ n + 1 + k = omega arith in
      let later : stays (n + 1 + k) ≡ true = subst (λ m. stays m ≡ true) e is in
      elim (cases_Bool (stays n)) [
        | inl here ↦ rw here (got_kept d (n + 1) xs k j (omega (arith, at, next_stays stays n here, ap (new_ordinal stays) e)) later)
        | inr goes ↦ rw goes (got_kept d (n + 1) xs k (suc j) (omega (arith, at, next_goes stays n goes, ap (new_ordinal stays) e)) later)
      ]

  -- each new ordinal is that of an entry that stays
  pub named : (n : ℕ) (xs : List A) (j : ℕ) → j < length (kept stays n xs) → (k : ℕ) × (k < length xs) × (stays (n + k) ≡ true) × (new_ordinal stays n + j ≡ new_ordinal stays (n + k))
  named n [] j below = absurd (omega arith)
  named n (x ∷ xs) zero below =
      elim (cases_Bool (stays n)) [
        | inl here ↦ (
            let e : n ≡ n + 0 = omega arith in
            (0, omega arith, subst (λ m. stays m ≡ true) e here, omega (arith, ap (new_ordinal stays) e))
            )
        | inr goes ↦ (
            let shorter : 0 < length (kept stays (n + 1) xs) = rw goes at below in
            let found = named (n + 1) xs 0 shorter in
            let e : n + 1 + found.0 ≡ n + suc found.0 = omega arith in
            (suc found.0, omega (arith, found.1), subst (λ m. stays m ≡ true) e found.2, omega (arith, found.3, next_goes stays n goes, ap (new_ordinal stays) e))
            )
      ]
  named n (x ∷ xs) (suc j) below =
      elim (cases_Bool (stays n)) [
        | inl here ↦ (
            let shorter : suc j < suc (length (kept stays (n + 1) xs)) = rw here at below in
            let found = named (n + 1) xs j (omega (arith, shorter)) in
            let e : n + 1 + found.0 ≡ n + suc found.0 = omega arith in
            (suc found.0, omega (arith, found.1), subst (λ m. stays m ≡ true) e found.2, omega (arith, found.3, next_stays stays n here, ap (new_ordinal stays) e))
            )
        | inr goes ↦ (
            let shorter : suc j < length (kept stays (n + 1) xs) = rw goes at below in
            let found = named (n + 1) xs (suc j) shorter in
            let e : n + 1 + found.0 ≡ n + suc found.0 = omega arith in
            (suc found.0, omega (arith, found.1), subst (λ m. stays m ≡ true) e found.2, omega (arith, found.3, next_goes stays n goes, ap (new_ordinal stays) e))
            )
      ]

  -- the entries that stay, by a filter
  pub kept_filtered : (n : ℕ) (xs : List A) → kept stays n xs ≡ map (λ (entry : ℕ × A). entry.1) (filter (λ (entry : ℕ × A). stays entry.0) (enumerate_from n xs))
  kept_filtered n [] = refl
  kept_filtered n (x ∷ xs) =
      elim (cases_Bool (stays n)) [
        | inl here ↦ rw here (ap (λ rest. x ∷ rest) (kept_filtered (n + 1) xs))
        | inr goes ↦ rw goes (kept_filtered (n + 1) xs)
      ]

-- ---- entries among other items

module _ {A : Type 0} (passes : A → Bool) (stays : ℕ → Bool) where
  -- of the items that pass, those that stay
  pub filter-staying : (n : ℕ) (xs : List A) → filter passes (staying passes stays n xs) ≡ kept stays n (filter passes xs)
  filter-staying n [] = refl
  filter-staying n (x ∷ xs) =
      elim (cases_Bool (passes x)) [
        | inl pass ↦ elim (cases_Bool (stays n)) [
          | inl here ↦ rw (pass, here, pass) (ap (λ rest. x ∷ rest) (filter-staying (n + 1) xs))
          | inr goes ↦ rw (pass, goes) (filter-staying (n + 1) xs)
        ]
        | inr skip ↦ rw (skip, skip) (filter-staying n xs)
      ]

  -- other items all stay
  pub filter-apart : (other : A → Bool) → ((x : A) → passes x ≡ true → other x ≡ false) → (n : ℕ) (xs : List A) → filter other (staying passes stays n xs) ≡ filter other xs
  filter-apart other apart n [] = refl
  filter-apart other apart n (x ∷ xs) =
      elim (cases_Bool (passes x)) [
        | inl pass ↦ elim (cases_Bool (stays n)) [
          | inl here ↦ (let none = apart x pass in rw (pass, here, none) (filter-apart other apart (n + 1) xs))
          | inr goes ↦ (let none = apart x pass in rw (pass, goes, none) (filter-apart other apart (n + 1) xs))
        ]
        | inr skip ↦ rw skip (elim (cases_Bool (other x)) [
          | inl pass ↦ rw pass (ap (λ rest. x ∷ rest) (filter-apart other apart n xs))
          | inr none ↦ rw none (filter-apart other apart n xs)
        ])
      ]

  picked : {B : Type 0} (found : Option B) (list : List B) → is_some found ≡ true → (y : B) × (found ≡ Some y)
  picked None list is = absurd cc
  picked (Some y) list is = (y, refl)

  module _ {B : Type 0} (pick : A → Option B) where
    -- of what the items that pass hold, that of those that stay
    pub filter_map-staying : ((x : A) → is_some (pick x) ≡ passes x) → (n : ℕ) (xs : List A) → filter_map pick (staying passes stays n xs) ≡ kept stays n (filter_map pick xs)
    filter_map-staying holds n [] = refl
    filter_map-staying holds n (x ∷ xs) =
        elim (cases_Bool (passes x)) [
          | inl pass ↦ (
              let y = picked (pick x) [] (holds x ∙ pass) in
              let is = y.1 in
              elim (cases_Bool (stays n)) [
                | inl here ↦ rw (pass, here, is, here) (ap (λ rest. y.0 ∷ rest) (filter_map-staying holds (n + 1) xs))
                | inr goes ↦ rw (pass, goes, is, goes) (filter_map-staying holds (n + 1) xs)
              ]
              )
          | inr skip ↦ (
              let is = none_is (pick x) (holds x ∙ skip) in
              rw (skip, is) (filter_map-staying holds n xs)
              )
        ]

    -- what other items hold all stays
    pub filter_map-apart : ((x : A) → passes x ≡ true → pick x ≡ None) → (n : ℕ) (xs : List A) → filter_map pick (staying passes stays n xs) ≡ filter_map pick xs
    filter_map-apart apart n [] = refl
    filter_map-apart apart n (x ∷ xs) =
        elim (cases_Bool (passes x)) [
          | inl pass ↦ (
              let is = apart x pass in
              elim (cases_Bool (stays n)) [
                | inl here ↦ rw (pass, here, is) (filter_map-apart apart (n + 1) xs)
                | inr goes ↦ rw (pass, goes, is) (filter_map-apart apart (n + 1) xs)
              ]
              )
          | inr skip ↦ rw skip (ap (cons_option (pick x)) (filter_map-apart apart n xs))
        ]

  -- the same of each item, where what passes follows from what it becomes
  pub map-staying : {B : Type 0} (f : A → B) (also : B → Bool) → ((x : A) → also (f x) ≡ passes x) → (n : ℕ) (xs : List A) → map f (staying passes stays n xs) ≡ staying also stays n (map f xs)
  map-staying f also same n [] = refl
  map-staying f also same n (x ∷ xs) =
      elim (cases_Bool (passes x)) [
        | inl pass ↦ (
            let too = same x ∙ pass in
            elim (cases_Bool (stays n)) [
              | inl here ↦ rw (pass, too, here) (ap (λ rest. f x ∷ rest) (map-staying f also same (n + 1) xs))
              | inr goes ↦ rw (pass, too, goes) (map-staying f also same (n + 1) xs)
            ]
            )
        | inr skip ↦ (let too = same x ∙ skip in rw (skip, too) (ap (λ rest. f x ∷ rest) (map-staying f also same n xs)))
      ]

  -- where the ordinals of all that pass stay, everything stays
  pub all_staying : (n : ℕ) (xs : List A) → ((k : ℕ) → n ≤ k → k < n + length (filter passes xs) → stays k ≡ true) → staying passes stays n xs ≡ xs
  all_staying n [] all = refl
  all_staying n (x ∷ xs) all =
      elim (cases_Bool (passes x)) [
        | inl pass ↦ (
            let within : (k : ℕ) → n ≤ k → k < n + suc (length (filter passes xs)) → stays k ≡ true = rw pass at all in
            let here : stays n ≡ true = within n (omega arith) (omega arith) in
            rw (pass, here) (ap (λ rest. x ∷ rest) (all_staying (n + 1) xs (λ k above below. within k (omega arith) (omega arith))))
            )
        | inr skip ↦ (
            let within : (k : ℕ) → n ≤ k → k < n + length (filter passes xs) → stays k ≡ true = rw skip at all in
            rw skip (ap (λ rest. x ∷ rest) (all_staying n xs within))
            )
      ]

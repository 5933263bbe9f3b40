-- Positions of the items that pass, one item after the other.
use Rattle.std.proofs.Common.{◌≡◌, ℕ, zero, suc, ◌+◌, ◌<◌, ◌≤◌, Bool, true, false, ◌&&◌, not, Option, Some, None, List, [], ◌∷◌, length, map, filter, slice_get, refl, ◌∙◌, inl, inr, arith}
use Rattle.mvt_document.proofs.Lists.{last_there}
use Rattle.std.proofs.lemmas.Bool.{cases_Bool, or_parts, or_from, and_right, and_from, not_from_true, not_from_false}
use Rattle.std.specs.List.{enumerate_from, list_any, last_or}
use Rattle.mvt_meaning.specs.Ordinals.{change_last}

-- the positions of the items that pass, where the first item is at n
abbrev pub positions_from : {A : Type 0} → (A → Bool) → ℕ → List A → List ℕ
positions_from {A} passes n items = map (λ p. p.0) (filter (λ (p : ℕ × A). passes p.1) (enumerate_from n items))

pub positions_pass : {A : Type 0} (passes : A → Bool) (n : ℕ) (x : A) (xs : List A) → passes x ≡ true → positions_from passes n (x ∷ xs) ≡ n ∷ positions_from passes (n + 1) xs
positions_pass passes n x xs e = rw e refl

pub positions_skip : {A : Type 0} (passes : A → Bool) (n : ℕ) (x : A) (xs : List A) → passes x ≡ false → positions_from passes n (x ∷ xs) ≡ positions_from passes (n + 1) xs
positions_skip passes n x xs e = rw e refl

first_or_later : (n i k len : ℕ) (rest : List ℕ) → slice_get (n ∷ rest) i ≡ Some k → ((j : ℕ) → slice_get rest j ≡ Some k → (n + 1 ≤ k) × (k < n + 1 + len)) → (n ≤ k) × (k < n + suc len)
first_or_later n zero k len rest e later = let same : n ≡ k = cc in (omega arith, omega arith)
first_or_later n (suc j) k len rest e later = let bounds = later j e in (omega arith, omega arith)

-- they are among the items
pub positions_within : {A : Type 0} (passes : A → Bool) (n : ℕ) (xs : List A) (i k : ℕ) → slice_get (positions_from passes n xs) i ≡ Some k → (n ≤ k) × (k < n + length xs)
positions_within passes n [] i k e = absurd cc
positions_within passes n (x ∷ xs) i k e =
    elim (cases_Bool (passes x)) [
      | inl pass ↦ first_or_later n i k (length xs) (positions_from passes (n + 1) xs) (rw (positions_pass passes n x xs pass) at e) (λ j h. positions_within passes (n + 1) xs j k h)
      | inr skip ↦ let bounds = positions_within passes (n + 1) xs i k (rw (positions_skip passes n x xs skip) at e) in (omega arith, omega arith)
    ]

pub no_positions : {A : Type 0} (passes : A → Bool) (n : ℕ) (xs : List A) → list_any passes xs ≡ false → positions_from passes n xs ≡ []
no_positions passes n [] e = refl
no_positions passes n (x ∷ xs) e =
    let parts = or_parts (passes x) (list_any passes xs) e in
    positions_skip passes n x xs parts.0 ∙ no_positions passes (n + 1) xs parts.1

-- ---- the last position

-- none passes if there is no last one
pub no_last : {A : Type 0} (passes : A → Bool) (n : ℕ) (xs : List A) → last_or None (positions_from passes n xs) ≡ None → list_any passes xs ≡ false
no_last passes n [] e = refl
no_last passes n (x ∷ xs) e =
    elim (cases_Bool (passes x)) [
      | inl pass ↦ absurd (last_there n (positions_from passes (n + 1) xs) (rw (positions_pass passes n x xs pass) at e))
      | inr skip ↦ or_from (passes x) (list_any passes xs) skip (no_last passes (n + 1) xs (rw (positions_skip passes n x xs skip) at e))
    ]

pub later_any : {A : Type 0} (passes : A → Bool) (x : A) (xs : List A) → list_any passes (x ∷ xs) ≡ true → passes x ≡ false → list_any passes xs ≡ true
later_any passes x xs e skip = rw skip at e

last_in : {A : Type 0} (passes : A → Bool) (n : ℕ) (xs : List A) (o : Option ℕ) → list_any passes xs ≡ true → last_or o (positions_from passes n xs) ≡ last_or None (positions_from passes n xs)
last_in passes n [] o e = absurd cc
last_in passes n (x ∷ xs) o e =
    elim (cases_Bool (passes x)) [
      | inl pass ↦ rw (positions_pass passes n x xs pass) refl
      | inr skip ↦ rw (positions_skip passes n x xs skip) (last_in passes (n + 1) xs o (later_any passes x xs e skip))
    ]

pub last_later : {A : Type 0} (passes : A → Bool) (n : ℕ) (x : A) (xs : List A) → list_any passes xs ≡ true → last_or None (positions_from passes n (x ∷ xs)) ≡ last_or None (positions_from passes (n + 1) xs)
last_later passes n x xs later =
    elim (cases_Bool (passes x)) [
      | inl pass ↦ rw (positions_pass passes n x xs pass) (last_in passes (n + 1) xs (Some n) later)
      | inr skip ↦ rw (positions_skip passes n x xs skip) refl
    ]

pub last_here : {A : Type 0} (passes : A → Bool) (n k : ℕ) (x : A) (xs : List A) → list_any passes xs ≡ false → last_or None (positions_from passes n (x ∷ xs)) ≡ Some k → (passes x ≡ true) × (n ≡ k)
last_here passes n k x xs none e =
    let rest = no_positions passes (n + 1) xs none in
    elim (cases_Bool (passes x)) [
      | inl pass ↦ (pass, let at_end = rw (positions_pass passes n x xs pass, rest) at e in cc)
      | inr skip ↦ absurd (let at_end = rw (positions_skip passes n x xs skip, rest) at e in cc)
    ]

-- ---- a change of the last item that passes

pub change_later : {A : Type 0} (passes : A → Bool) (change : A → A) (x : A) (xs : List A) → list_any passes xs ≡ true → change_last passes change (x ∷ xs) ≡ x ∷ change_last passes change xs
change_later passes change x xs later =
    let no : (passes x && not (list_any passes xs)) ≡ false = and_right (passes x) (not (list_any passes xs)) (not_from_true (list_any passes xs) later) in rw no refl

pub change_here : {A : Type 0} (passes : A → Bool) (change : A → A) (x : A) (xs : List A) → passes x ≡ true → list_any passes xs ≡ false → change_last passes change (x ∷ xs) ≡ change x ∷ xs
change_here passes change x xs pass none =
    let yes : (passes x && not (list_any passes xs)) ≡ true = and_from (passes x) (not (list_any passes xs)) pass (not_from_false (list_any passes xs) none) in rw yes refl

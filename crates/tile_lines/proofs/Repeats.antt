-- A step that is repeated as long as it takes something, for steps that take at least one byte.
use Rattle.std.proofs.Common.{◌≡◌, ℕ, zero, suc, ◌<◌, ◌≤◌, List, [], ◌∷◌, ◌++◌, length, Option, Some, None, refl, sym, ap, ◌∙◌, arith, append_assoc, length-append}
use Rattle.std.specs.Prelude.{IfSome}
use Rattle.std.specs.Option.{option_map_or}
use Rattle.std.proofs.lemmas.List.{append-nil}
use Rattle.tile_lines.specs.Words.{onto, repeated, taken}

-- a step leaves less than it was given
abbrev pub Shortens : {A : Type 0} → (List ℕ → Option (A × List ℕ)) → Type 0
Shortens step = (bytes : List ℕ) → IfSome (step bytes) (λ found. length found.1 < length bytes)

-- nothing is taken from nothing
nothing : {A B : Type 0} (f : A × List ℕ → B) (d : B) (o : Option (A × List ℕ)) → IfSome o (λ found. length found.1 < 0) → option_map_or f o d ≡ d
nothing f d None h = refl
nothing f d (Some x) h = absurd (omega (arith, h))

-- two ways on agree where they agree on what is left
agree : {A B : Type 0} (f g : A × List ℕ → B) (d : B) (n : ℕ) (o : Option (A × List ℕ)) → IfSome o (λ found. length found.1 < n) → ((x : A × List ℕ) → length x.1 < n → f x ≡ g x) → option_map_or f o d ≡ option_map_or g o d
agree f g d n None h same = refl
agree f g d n (Some x) h same = same x h

enough : {A : Type 0} (step : List ℕ → Option (A × List ℕ)) → Shortens step → (m n : ℕ) (bytes : List ℕ) → length bytes ≤ m → length bytes ≤ n → repeated step m bytes ≡ repeated step n bytes
unfolding repeated
enough step short zero zero bytes le le' = refl
enough step short zero (suc n) [] le le' = sym (nothing (λ found. onto found.0 (repeated step n found.1)) ([], []) (step []) (short []))
enough step short zero (suc n) (b ∷ bytes) le le' = absurd (omega arith)
enough step short (suc m) zero [] le le' = nothing (λ found. onto found.0 (repeated step m found.1)) ([], []) (step []) (short [])
enough step short (suc m) zero (b ∷ bytes) le le' = absurd (omega arith)
enough step short (suc m) (suc n) bytes le le' =
    agree (λ found. onto found.0 (repeated step m found.1)) (λ found. onto found.0 (repeated step n found.1)) ([], bytes) (length bytes) (step bytes) (short bytes)
    (λ x lt. ap (onto x.0) (enough step short m n x.1 (omega arith) (omega arith)))

-- one step, and then all the others
pub taken_step : {A : Type 0} (step : List ℕ → Option (A × List ℕ)) → Shortens step → (bytes : List ℕ) → taken step bytes ≡ option_map_or (λ found. onto found.0 (taken step found.1)) (step bytes) ([], bytes)
unfolding repeated
taken_step step short [] = sym (nothing (λ found. onto found.0 (taken step found.1)) ([], []) (step []) (short []))
taken_step step short (b ∷ bytes) =
    agree (λ found. onto found.0 (repeated step (length bytes) found.1)) (λ found. onto found.0 (taken step found.1)) ([], b ∷ bytes) (length (b ∷ bytes)) (step (b ∷ bytes)) (short (b ∷ bytes))
    (λ x lt. ap (onto x.0) (enough step short (length bytes) (length x.1) x.1 (omega arith) (omega arith)))

pub taken_some : {A : Type 0} (step : List ℕ → Option (A × List ℕ)) → Shortens step → (bytes : List ℕ) (x : A) (rest : List ℕ) → step bytes ≡ Some (x, rest) → taken step bytes ≡ onto x (taken step rest)
taken_some step short bytes x rest e = taken_step step short bytes ∙ rw e refl

pub taken_none : {A : Type 0} (step : List ℕ → Option (A × List ℕ)) → Shortens step → (bytes : List ℕ) → step bytes ≡ None → taken step bytes ≡ ([], bytes)
taken_none step short bytes e = taken_step step short bytes ∙ rw e refl

-- what was taken before, in front of what is taken still
abbrev pub following : {A : Type 0} → List A → List A × List ℕ → List A × List ℕ
following front found = (front ++ found.0, found.1)

pub goes_on : {A : Type 0} (step : List ℕ → Option (A × List ℕ)) → Shortens step → (front : List A) (bytes : List ℕ) (x : A) (rest : List ℕ) (whole : List A × List ℕ) → step bytes ≡ Some (x, rest)
    → following front (taken step bytes) ≡ whole → following (front ++ x ∷ []) (taken step rest) ≡ whole
goes_on {A} step short front bytes x rest whole e so_far =
    ap (λ (xs : List A). (xs, (taken step rest).1)) (append_assoc front (x ∷ []) (taken step rest).0) ∙ ap (following front) (sym (taken_some step short bytes x rest e)) ∙ so_far

pub ends : {A : Type 0} (step : List ℕ → Option (A × List ℕ)) → Shortens step → (front : List A) (bytes : List ℕ) (whole : List A × List ℕ) → step bytes ≡ None
    → following front (taken step bytes) ≡ whole → whole ≡ (front, bytes)
ends {A} step short front bytes whole e so_far =
    sym so_far ∙ ap (following front) (taken_none step short bytes e) ∙ ap (λ (xs : List A). (xs, bytes)) (append-nil front)

-- something is taken in all, where a step takes something after what was taken before
pub one_taken : {A : Type 0} (step : List ℕ → Option (A × List ℕ)) → Shortens step → (front : List A) (bytes : List ℕ) (x : A) (rest : List ℕ) (whole : List A × List ℕ) → step bytes ≡ Some (x, rest)
    → following front (taken step bytes) ≡ whole → 1 ≤ length whole.0
one_taken {A} step short front bytes x rest whole e so_far =
    let all = goes_on step short front bytes x rest whole e so_far in
    omega (arith, ap (λ (t : List A × List ℕ). length t.0) all, length-append (front ++ x ∷ []) (taken step rest).0, length-append front (x ∷ []))

-- no more is left than there was
pub rest_le : {A : Type 0} (step : List ℕ → Option (A × List ℕ)) → Shortens step → (n : ℕ) (bytes : List ℕ) → length (repeated step n bytes).1 ≤ length bytes
unfolding repeated
rest_le step short zero bytes = omega arith
rest_le step short (suc n) bytes = left_le (λ found. onto found.0 (repeated step n found.1)) bytes (step bytes) (short bytes) (λ x. rest_le step short n x.1)
  where
    left_le : {A : Type 0} (f : A × List ℕ → List A × List ℕ) (bytes : List ℕ) (o : Option (A × List ℕ)) → IfSome o (λ found. length found.1 < length bytes) → ((x : A × List ℕ) → length (f x).1 ≤ length x.1) → length (option_map_or f o ([], bytes)).1 ≤ length bytes
    left_le f bytes None h le = omega arith
    left_le f bytes (Some x) h le = omega (arith, h, le x)

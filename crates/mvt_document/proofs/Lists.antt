-- Lists in general: the last item, one item more, a front in two parts, none that passes, and the same made of each item.
use Rattle.std.proofs.Common.{◌≡◌, ℕ, suc, ◌+◌, ◌≤◌, Option, Some, None, List, [], ◌∷◌, ◌++◌, length, take, drop, take-append-drop, refl, sym, ap, ◌∙◌, arith, Bool, false, filter}
use Rattle.std.specs.List.{cons_option, last_or, flat_map, list_any}
use Rattle.std.proofs.lemmas.List.{drop-take, take-take}
use Rattle.std.proofs.lemmas.Bool.{or_parts}

pub last_pushed : {A : Type 0} (o : Option A) (xs : List A) (x : A) → last_or o (xs ++ x ∷ []) ≡ Some x
last_pushed o [] x = refl
last_pushed o (y ∷ xs) x = last_pushed (Some y) xs x

pub last_there : {A : Type 0} (y : A) (xs : List A) → last_or (Some y) xs ≡ None → ⊥
last_there y [] none = cc
last_there y (x ∷ xs) none = last_there x xs none

pub cons_no_more : {A : Type 0} (o : Option A) (xs : List A) (n : ℕ) → length xs ≤ n → length (cons_option o xs) ≤ suc n
cons_no_more None xs n most = omega arith
cons_no_more (Some x) xs n most = omega arith

pub take_sum : {A : Type 0} (n m : ℕ) (xs : List A) → take (n + m) xs ≡ take n xs ++ take m (drop n xs)
take_sum n m xs =
    sym (take-append-drop n (take (n + m) xs))
    ∙ ap (λ t. t ++ drop n (take (n + m) xs)) (take-take n (n + m) xs (omega arith))
    ∙ ap (λ t. take n xs ++ t) (drop-take n m xs)

pub none_filtered : {A : Type 0} (passes : A → Bool) (xs : List A) → list_any passes xs ≡ false → filter passes xs ≡ []
none_filtered passes [] none = refl
none_filtered passes (x ∷ xs) none = let parts = or_parts (passes x) (list_any passes xs) none in rw parts.0 (none_filtered passes xs parts.1)

pub same_each : {A B : Type 0} (f g : A → List B) → ((x : A) → f x ≡ g x) → (xs : List A) → flat_map f xs ≡ flat_map g xs
same_each f g same [] = refl
same_each f g same (x ∷ xs) = ap (λ first. first ++ flat_map f xs) (same x) ∙ ap (λ rest. g x ++ rest) (same_each f g same xs)

-- What holds of each item of lists that are made of others.
use Rattle.std.proofs.Common.{ℕ, zero, suc, List, [], ◌∷◌, ◌++◌, take, drop, map, slice_get, Some, subst, ◌≡◌}
use Rattle.std.specs.List.{AllByRecursion}

module _ {A : Type 0} (P : A → Type 0) where
  pub all_taken : (n : ℕ) (xs : List A) → AllByRecursion P xs → AllByRecursion P (take n xs)
  all_taken zero xs all = tt
  all_taken (suc n) [] all = tt
  all_taken (suc n) (x ∷ xs) all = (all.0, all_taken n xs all.1)

  pub all_dropped : (n : ℕ) (xs : List A) → AllByRecursion P xs → AllByRecursion P (drop n xs)
  all_dropped zero xs all = all
  all_dropped (suc n) [] all = tt
  all_dropped (suc n) (x ∷ xs) all = all_dropped n xs all.1

  pub all_joined : (xs ys : List A) → AllByRecursion P xs → AllByRecursion P ys → AllByRecursion P (xs ++ ys)
  all_joined [] ys first second = second
  all_joined (x ∷ xs) ys first second = (first.0, all_joined xs ys first.1 second)

  pub all_apart : (xs ys : List A) → AllByRecursion P (xs ++ ys) → AllByRecursion P xs × AllByRecursion P ys
  all_apart [] ys all = (tt, all)
  all_apart (x ∷ xs) ys all = let apart = all_apart xs ys all.1 in ((all.0, apart.0), apart.1)

  pub one_of_all : (xs : List A) (index : ℕ) (x : A) → slice_get xs index ≡ Some x → AllByRecursion P xs → P x
  one_of_all [] index x is all = absurd cc
  one_of_all (x ∷ xs) zero y is all = let same : x ≡ y = cc in subst P same all.0
  one_of_all (x ∷ xs) (suc index) y is all = one_of_all xs index y is all.1

  pub all_by : (Q : A → Type 0) → ((x : A) → P x → Q x) → (xs : List A) → AllByRecursion P xs → AllByRecursion Q xs
  all_by Q each [] all = tt
  all_by Q each (x ∷ xs) all = (each x all.0, all_by Q each xs all.1)

  pub all_with : (Q R : A → Type 0) → ((x : A) → P x → Q x → R x) → (xs : List A) → AllByRecursion P xs → AllByRecursion Q xs → AllByRecursion R xs
  all_with Q R each [] all others = tt
  all_with Q R each (x ∷ xs) all others = (each x all.0 others.0, all_with Q R each xs all.1 others.1)

pub all_of_map : {S T : Type 0} (f : S → T) (P : T → Type 0) (xs : List S) → AllByRecursion (λ x. P (f x)) xs → AllByRecursion P (map f xs)
all_of_map f P [] all = tt
all_of_map f P (x ∷ xs) all = (all.0, all_of_map f P xs all.1)

pub all_from_map : {S T : Type 0} (f : S → T) (P : T → Type 0) (xs : List S) → AllByRecursion P (map f xs) → AllByRecursion (λ x. P (f x)) xs
all_from_map f P [] all = tt
all_from_map f P (x ∷ xs) all = (all.0, all_from_map f P xs all.1)

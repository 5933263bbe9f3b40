-- Which part of a list can be replaced, which item can move, and a list with one item changed.
use Rattle.std.specs.Prelude.{ℕ, zero, suc, ◌+◌, ◌<◌, ◌≤◌, List, [], ◌∷◌, length}
use Rattle.std.specs.List.{AllByRecursion}

-- the list with the item at this position changed
abbrev pub change_at : {A : Type 0} → (A → A) → ℕ → List A → List A
change_at change at [] = []
change_at change zero (x ∷ xs) = change x ∷ xs
change_at change (suc at) (x ∷ xs) = x ∷ change_at change at xs

-- there are `taken` items from `index`, and the items to put are valid
pub record CanSplice {A : Type 0} (valid : A → Type 0) (index taken : ℕ) (put items : List A) : Type 0 where
  pub within : index + taken ≤ length items
  pub valid_put : AllByRecursion valid put

-- both positions are positions of items
pub record CanMove {A : Type 0} (from to : ℕ) (items : List A) : Type 0 where
  pub there : from < length items
  pub within : to < length items

-- there are `count` items from `index`
abbrev pub HasPart : {A : Type 0} → ℕ → ℕ → List A → Type 0
HasPart index count items = index + count ≤ length items

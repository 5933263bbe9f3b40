-- What holds for each item of a list holds for those that pass.
use Rattle.std.proofs.Common.{Bool, List, [], ◌∷◌, filter, inl, inr}
use Rattle.std.specs.List.{AllByRecursion}
use Rattle.std.proofs.lemmas.Bool.{cases_Bool}

module _ {A : Type 0} (P : A → Type 0) where
  pub all_filtered : (passes : A → Bool) (xs : List A) → AllByRecursion P xs → AllByRecursion P (filter passes xs)
  all_filtered passes [] all = tt
  all_filtered passes (x ∷ xs) all =
      elim (cases_Bool (passes x)) [ inl kept ↦ rw kept (all.0, all_filtered passes xs all.1) | inr gone ↦ rw gone (all_filtered passes xs all.1) ]

-- When a list is what is left of another.
use Rattle.std.proofs.Common.{ℕ, ◌+◌, Bool, List, [], ◌∷◌, inl, inr}
use Rattle.std.proofs.lemmas.Bool.{cases_Bool}
use Rattle.mvt_meaning.specs.Compaction.{staying}
use Rattle.command_laws.specs.CompactionLaws.{IsLeftOf, gone, nothing, stayed}

module _ {A : Type 0} (passes : A → Bool) (stays : ℕ → Bool) where
  -- what stays is left of the whole
  pub left_staying : (n : ℕ) (xs : List A) → IsLeftOf A (staying passes stays n xs) xs
  left_staying n [] = nothing
  left_staying n (x ∷ xs) =
      elim (cases_Bool (passes x)) [
        | inl pass ↦ elim (cases_Bool (stays n)) [
          | inl here ↦ rw (pass, here) (stayed x (left_staying (n + 1) xs))
          | inr goes ↦ rw (pass, goes) (gone x (left_staying (n + 1) xs))
        ]
        | inr skip ↦ rw skip (stayed x (left_staying n xs))
      ]

-- to be left of another list is transitive
pub left_twice : {A : Type 0} {xs ys zs : List A} → IsLeftOf A xs ys → IsLeftOf A ys zs → IsLeftOf A xs zs
left_twice first nothing = first
left_twice (stayed x first) (stayed y second) = stayed x (left_twice first second)
left_twice (gone x first) (stayed y second) = gone x (left_twice first second)
left_twice first (gone z second) = gone z (left_twice first second)

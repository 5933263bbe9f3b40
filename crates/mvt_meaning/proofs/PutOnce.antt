-- A new item in place of all that pass, where it passes itself.
use Rattle.std.proofs.Common.{◌≡◌, Bool, true, not, List, [], ◌∷◌, filter, refl, ap, inl, inr}
use Rattle.std.proofs.lemmas.Bool.{cases_Bool}
use Rattle.mvt_meaning.specs.Ordinals.{put_once}

module _ {A : Type 0} (passes : A → Bool) where
  none_passing : (xs : List A) → filter passes (filter (λ x. not (passes x)) xs) ≡ []
  none_passing [] = refl
  none_passing (x ∷ xs) = elim (cases_Bool (passes x)) [ inl pass ↦ rw pass (none_passing xs) | inr skip ↦ rw (skip, skip) (none_passing xs) ]

  -- no other item passes
  pub put_alone : (new : A) → passes new ≡ true → (xs : List A) → filter passes (put_once passes new xs) ≡ new ∷ []
  put_alone new own [] = rw own refl
  put_alone new own (x ∷ xs) =
      elim (cases_Bool (passes x)) [
        | inl pass ↦ rw (pass, own) (ap (λ rest. new ∷ rest) (none_passing xs))
        | inr skip ↦ rw (skip, skip) (put_alone new own xs)
      ]

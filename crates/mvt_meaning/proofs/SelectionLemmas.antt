-- The one layer that has a name, and that positions of items that pass are in order.
use Rattle.std.proofs.Common.{◌≡◌, ℕ, ◌+◌, ◌<◌, Bool, Result, List, [], ◌∷◌, slice_get, ap, inl, inr, arith}
use Rattle.std.proofs.lemmas.Bool.{cases_Bool}
use Rattle.mvt_messages.specs.Views.{the_one}
use Rattle.mvt_meaning.specs.declared.refusal.Refusal.{Refusal}
use Rattle.mvt_meaning.specs.declared.refusal.Refusal.TheVariants.{AmbiguousLayer, NoLayer}
use Rattle.mvt_meaning.proofs.Positions.{positions_from, positions_pass, positions_skip, positions_within}

-- the one layer of these
abbrev pub one_layer : List ℕ → Result ℕ Refusal
one_layer ordinals = the_one NoLayer AmbiguousLayer ordinals

pub two_apart : {A : Type 0} (passes : A → Bool) (n a b : ℕ) (xs : List A) (more : List ℕ) → positions_from passes n xs ≡ a ∷ b ∷ more → a < b
two_apart passes n a b [] more e = absurd cc
two_apart passes n a b (x ∷ xs) more e =
    elim (cases_Bool (passes x)) [
      | inl pass ↦ (
          let here = rw (positions_pass passes n x xs pass) at e in
          let first : n ≡ a = cc in
          let rest : positions_from passes (n + 1) xs ≡ b ∷ more = cc in
          let bounds = positions_within passes (n + 1) xs 0 b (ap (λ ys. slice_get ys 0) rest) in
          omega arith
          )
      | inr skip ↦ two_apart passes (n + 1) a b xs more (rw (positions_skip passes n x xs skip) at e)
    ]

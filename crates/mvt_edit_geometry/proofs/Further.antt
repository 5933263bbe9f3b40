-- A parameter that leads further: the delta that it then holds.
use Rattle.std.proofs.Common.{◌≡◌, ◌^◌, ℕ, true, false, ℤ, ◌+ℤ◌, unsigned_abs, SFits, of_z, to_z, w64, subst, sym, ap, ◌∙◌, inl, inr, arith}
use Rattle.std.proofs.lemmas.Bool.{cases_Bool, ltb-true}
use Rattle.std.proofs.lemmas.Int.{fits_signed_from_abs, to_z-of_z}
use Rattle.mvt_document.specs.Signed.{zigzag, unzigzag}
use Rattle.mvt_document.proofs.Signed.{unzigzag-zigzag}
use Rattle.mvt_geometry.specs.Checks.{is_delta}
use Rattle.mvt_meaning.specs.Geometries.{further}

-- what no `i64` holds is not a delta
none_so_far : (delta : ℤ) → (SFits w64 delta → ⊥) → false ≡ is_delta delta
none_so_far delta none =
    elim (cases_Bool (is_delta delta)) [
      | inl is ↦ absurd (none (fits_signed_from_abs w64 delta (let near = ltb-true (unsigned_abs delta) (2 ^ 31) is in omega arith)))
      | inr not ↦ sym not
    ]

-- the delta that a parameter holds, plus so much more
module _ (parameter : ℕ) (read more : ℤ) (read_fits : SFits w64 read) (more_fits : SFits w64 more) (is : zigzag read ≡ parameter) where
  abbrev sum : ℤ
  sum = to_z w64 (of_z w64 read) +ℤ to_z w64 (of_z w64 more)

  leads : sum ≡ further more parameter
  leads = rw (to_z-of_z w64 read read_fits, to_z-of_z w64 more more_fits) (ap (λ from. from +ℤ more) (sym (unzigzag-zigzag read) ∙ ap unzigzag is))

  pub leads_to : (delta : ℤ) → SFits w64 sum × (delta ≡ sum) → to_z w64 (of_z w64 delta) ≡ further more parameter
  leads_to delta made = to_z-of_z w64 delta (subst (SFits w64) (sym made.1) made.0) ∙ made.1 ∙ leads

  pub too_far : (SFits w64 sum → ⊥) → false ≡ is_delta (further more parameter)
  too_far none = none_so_far sum none ∙ ap is_delta leads

-- Signed numbers in two's complement are read as they are written.
use Rattle.std.proofs.Common.{◌≡◌, ℕ, suc, ◌-◌, ◌^◌, ◌<◌, ◌≤◌, ℤ, pos, negsuc, ltb, refl, ap, ◌∙◌, arith, SFits, w64}
use Rattle.std.proofs.lemmas.Bool.{cond-true, cond-false, cond_both, lt-ltb, le-ltb, ltb-true, ltb-false}
use Rattle.mvt_value.specs.Signed.{twos_complement, signed}

pub signed-twos_complement : (z : ℤ) → SFits w64 z → signed (twos_complement z) ≡ z
signed-twos_complement (pos n) fits = cond-true (ltb n (2 ^ 63)) _ _ (lt-ltb n (2 ^ 63) (omega (arith, fits.sfits)))
signed-twos_complement (negsuc n) fits =
    let back : 2 ^ 64 - suc (2 ^ 64 - suc n) ≡ n = omega (arith, fits.sfits) in
    cond-false (ltb (2 ^ 64 - suc n) (2 ^ 63)) _ _ (le-ltb (2 ^ 64 - suc n) (2 ^ 63) (omega (arith, fits.sfits))) ∙ ap negsuc back

pub record IsSigned (n : ℕ) (z : ℤ) : Type 0 where
  pub fits : SFits w64 z
  pub same : n ≡ twos_complement z

pub signed_is : (n : ℕ) → n < 2 ^ 64 → IsSigned n (signed n)
signed_is n below =
    cond_both (ltb n (2 ^ 63)) (pos n) (negsuc (2 ^ 64 - suc n)) (IsSigned n)
    (λ e. let low : n < 2 ^ 63 = ltb-true n (2 ^ 63) e in record { fits = record { sfits = omega arith }; same = refl })
    (λ e. let high : 2 ^ 63 ≤ n = ltb-false n (2 ^ 63) e in record { fits = record { sfits = omega arith }; same = omega arith })

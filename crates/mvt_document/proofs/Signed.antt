-- A ZigZag is that of only one number, and is read as that number.
use Rattle.std.proofs.Common.{◌≡◌, ℕ, suc, ◌-◌, ◌*◌, ◌/◌, ◌%◌, ℤ, pos, negsuc, eqb, ap, ◌∙◌, arith}
use Rattle.std.proofs.lemmas.Bool.{cond-true, cond-false, cond_both, eqb-true, eqb-false, eq-eqb, ne_eqb}
use Rattle.mvt_document.specs.Signed.{zigzag, unzigzag}

pub one_in_zigzag : (a b : ℤ) → zigzag a ≡ zigzag b → a ≡ b
one_in_zigzag (pos a) (pos b) e = let same : a ≡ b = omega arith in ap pos same
one_in_zigzag (pos a) (negsuc b) e = absurd (omega arith)
one_in_zigzag (negsuc a) (pos b) e = absurd (omega arith)
one_in_zigzag (negsuc a) (negsuc b) e = let same : a ≡ b = omega arith in ap negsuc same

pub unzigzag-zigzag : (z : ℤ) → unzigzag (zigzag z) ≡ z
unzigzag-zigzag (pos n) =
    let half : 2 * n / 2 ≡ n = omega arith in
    cond-true (eqb (2 * n % 2) 0) _ _ (eq-eqb _ 0 (omega arith)) ∙ ap pos half
unzigzag-zigzag (negsuc n) =
    let half : (2 * suc n - 1) / 2 ≡ n = omega arith in
    cond-false (eqb ((2 * suc n - 1) % 2) 0) _ _ (ne_eqb _ 0 (λ e. omega arith)) ∙ ap negsuc half

pub zigzag-unzigzag : (n : ℕ) → zigzag (unzigzag n) ≡ n
zigzag-unzigzag n =
    cond_both (eqb (n % 2) 0) (pos (n / 2)) (negsuc (n / 2)) (λ z. zigzag z ≡ n)
    (λ even. let e : n % 2 ≡ 0 = eqb-true (n % 2) 0 even in omega arith)
    (λ odd. let e : n % 2 ≡ 0 → ⊥ = eqb-false (n % 2) 0 odd in omega arith)

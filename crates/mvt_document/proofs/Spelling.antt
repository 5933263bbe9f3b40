-- Numbers in base 128: how wide a spelling is, and that no spelling is a prefix of another.
use Rattle.std.proofs.Common.{◌≡◌, ℕ, zero, suc, ◌+◌, ◌*◌, ◌/◌, ◌%◌, ◌^◌, ◌<◌, ◌≤◌, List, [], ◌∷◌, ◌++◌, length, max, ltb, refl, ap, ◌∙◌, subst, arith}
use Rattle.std.proofs.lemmas.Bool.{cond_both, ltb-true, ltb-false}
use Rattle.std.proofs.lemmas.Nat.{pow-add, div_below}
use Rattle.std.proofs.Math.Nat.{pow-le-pow_right}
use Rattle.mvt_document.specs.Wire.{spell, width_within, minimal_width}
use Rattle.mvt_document.specs.Shape.{IsSpelling}

-- ---- seven bits more

pub pow_more : (w : ℕ) → 2 ^ (7 * suc w) ≡ 2 ^ (7 * w) * 128
pow_more w =
    let e : 7 * suc w ≡ 7 * w + 7 = omega arith in
    ap (λ n. 2 ^ n) e ∙ pow-add 2 (7 * w) 7

pub rest_below : (v w : ℕ) → v < 2 ^ (7 * suc w) → v / 128 < 2 ^ (7 * w)
rest_below v w h =
    let b : v < 2 ^ (7 * w) * 128 = subst (λ n. v < n) (pow_more w) h in
    div_below v 128 (2 ^ (7 * w)) (omega arith) b

pub below_from_rest : (v w : ℕ) → v / 128 < 2 ^ (7 * w) → v < 2 ^ (7 * suc w)
below_from_rest v w h = let e = pow_more w in omega (arith, pow_more w)

pub pow_le : (i j : ℕ) → i ≤ j → 2 ^ i ≤ 2 ^ j
pow_le i j h = pow-le-pow_right {n = 2} (omega arith) {i = i} {j = j} h

-- ---- the bytes

pub spell-one : (v : ℕ) → spell v 1 ≡ (v % 128) ∷ []
unfolding spell
spell-one v = refl

pub spell-more : (v w : ℕ) → spell v (suc (suc w)) ≡ (v % 128 + 128) ∷ spell (v / 128) (suc w)
unfolding spell
spell-more v w = refl

pub length-spell : (v w : ℕ) → length (spell v w) ≡ w
unfolding spell
length-spell v zero = refl
length-spell v (suc zero) = refl
length-spell v (suc (suc w)) = ap suc (length-spell (v / 128) (suc w))

-- ---- the least width

pub width_within_some : (m v : ℕ) → 1 ≤ width_within m v
unfolding width_within
width_within_some zero v = omega arith
width_within_some (suc m) v =
    cond_both (ltb v 128) 1 (suc (width_within m (v / 128))) (λ n. 1 ≤ n) (λ _. omega arith) (λ _. omega arith)

pub width_within_short : (m v : ℕ) → width_within m v ≤ suc m
unfolding width_within
width_within_short zero v = omega arith
width_within_short (suc m) v =
    cond_both (ltb v 128) 1 (suc (width_within m (v / 128))) (λ n. n ≤ suc (suc m))
    (λ _. omega arith)
    (λ _. omega (arith, width_within_short m (v / 128)))

pub width_within_holds : (m v : ℕ) → v < 2 ^ (7 * suc m) → v < 2 ^ (7 * width_within m v)
unfolding width_within
width_within_holds zero v h = h
width_within_holds (suc m) v h =
    cond_both (ltb v 128) 1 (suc (width_within m (v / 128))) (λ n. v < 2 ^ (7 * n))
    (λ e. ltb-true v 128 e)
    (λ _. below_from_rest v (width_within m (v / 128)) (width_within_holds m (v / 128) (rest_below v (suc m) h)))

pub width_within_least : (m v w : ℕ) → 1 ≤ w → v < 2 ^ (7 * w) → width_within m v ≤ w
unfolding width_within
width_within_least zero v w some h = some
width_within_least (suc m) v zero some h = absurd (omega arith)
width_within_least (suc m) v (suc zero) some h =
    cond_both (ltb v 128) 1 (suc (width_within m (v / 128))) (λ n. n ≤ 1)
    (λ _. omega arith)
    (λ e. absurd (omega (arith, ltb-false v 128 e)))
width_within_least (suc m) v (suc (suc w)) some h =
    cond_both (ltb v 128) 1 (suc (width_within m (v / 128))) (λ n. n ≤ suc (suc w))
    (λ _. omega arith)
    (λ _. omega (arith, width_within_least m (v / 128) (suc w) (omega arith) (rest_below v (suc w) h)))

pub width_within_grows : (m v w : ℕ) → v ≤ w → width_within m v ≤ width_within m w
unfolding width_within
width_within_grows zero v w less = omega arith
width_within_grows (suc m) v w less =
    cond_both (ltb v 128) 1 (suc (width_within m (v / 128))) (λ n. n ≤ width_within (suc m) w)
    (λ _. width_within_some (suc m) w)
    (λ e.
    let high : 128 ≤ v = ltb-false v 128 e in
    cond_both (ltb w 128) 1 (suc (width_within m (w / 128))) (λ n. suc (width_within m (v / 128)) ≤ n)
    (λ low. absurd (omega (arith, ltb-true w 128 low)))
    (λ _. let rest : v / 128 ≤ w / 128 = omega arith in omega (arith, width_within_grows m (v / 128) (w / 128) rest)))

pub minimal_width_some : (v : ℕ) → 1 ≤ minimal_width v
minimal_width_some v = width_within_some 9 v

pub minimal_width_short : (v : ℕ) → minimal_width v ≤ 10
minimal_width_short v = width_within_short 9 v

pub minimal_width_holds : (v : ℕ) → v < 2 ^ 70 → v < 2 ^ (7 * minimal_width v)
minimal_width_holds v h = width_within_holds 9 v h

pub minimal_width_least : (v w : ℕ) → 1 ≤ w → v < 2 ^ (7 * w) → minimal_width v ≤ w
minimal_width_least v w some h = width_within_least 9 v w some h

-- ---- what can be spelled

pub spelling_from : (v w : ℕ) → 1 ≤ w → w ≤ 10 → v < 2 ^ 64 → v < 2 ^ (7 * w) → IsSpelling v w
spelling_from v w some short fits h =
    record { fits = fits; wide = minimal_width_least v w some h; short = short }

pub spelling_some : (v w : ℕ) → IsSpelling v w → 1 ≤ w
spelling_some v w s = omega (arith, minimal_width_some v, s.wide)

pub spelling_below : (v w : ℕ) → IsSpelling v w → v < 2 ^ (7 * w)
spelling_below v w s =
    let a : v < 2 ^ (7 * minimal_width v) = minimal_width_holds v (omega (arith, s.fits)) in
    let l : 7 * minimal_width v ≤ 7 * w = omega (arith, s.wide) in
    let b : 2 ^ (7 * minimal_width v) ≤ 2 ^ (7 * w) = pow_le (7 * minimal_width v) (7 * w) l in
    omega arith

pub max_spelling : (v w : ℕ) → IsSpelling v w → max w (minimal_width v) ≡ w
max_spelling v w s = omega (arith, s.wide)

pub minimal_spelling : (v : ℕ) → v < 2 ^ 64 → IsSpelling v (minimal_width v)
minimal_spelling v fits = record { fits = fits; wide = omega arith; short = minimal_width_short v }

-- ---- no spelling is a prefix of another

apart : (w w' v v' : ℕ) (x y : List ℕ) → v < 2 ^ (7 * suc w) → v' < 2 ^ (7 * suc w') → spell v (suc w) ++ x ≡ spell v' (suc w') ++ y → (v ≡ v') × (w ≡ w') × (x ≡ y)
unfolding spell
apart zero zero v v' x y h h' e =
    let a : v % 128 ≡ v' % 128 = (cc) in
    let t : x ≡ y = (cc) in
    (omega arith, refl, t)
apart zero (suc w') v v' x y h h' e =
    let a : v % 128 ≡ v' % 128 + 128 = (cc) in
    absurd (omega arith)
apart (suc w) zero v v' x y h h' e =
    let a : v % 128 + 128 ≡ v' % 128 = (cc) in
    absurd (omega arith)
apart (suc w) (suc w') v v' x y h h' e =
    let a : v % 128 + 128 ≡ v' % 128 + 128 = (cc) in
    let t : spell (v / 128) (suc w) ++ x ≡ spell (v' / 128) (suc w') ++ y = (cc) in
    let r : (v / 128 ≡ v' / 128) × (w ≡ w') × (x ≡ y) =
    apart w w' (v / 128) (v' / 128) x y (rest_below v (suc w) h) (rest_below v' (suc w') h') t in
    let q : v / 128 ≡ v' / 128 = r.0 in
    (omega arith, ap suc r.1, r.2)

pub one_spelling : (v w v' w' : ℕ) (x y : List ℕ) → IsSpelling v w → IsSpelling v' w' → spell v w ++ x ≡ spell v' w' ++ y → (v ≡ v') × (w ≡ w') × (x ≡ y)
one_spelling v zero v' w' x y s t e = absurd (omega (arith, spelling_some v 0 s))
one_spelling v (suc w) v' zero x y s t e = absurd (omega (arith, spelling_some v' 0 t))
one_spelling v (suc w) v' (suc w') x y s t e =
    let r : (v ≡ v') × (w ≡ w') × (x ≡ y) =
    apart w w' v v' x y (spelling_below v (suc w) s) (spelling_below v' (suc w') t) e in
    (r.0, ap suc r.1, r.2)

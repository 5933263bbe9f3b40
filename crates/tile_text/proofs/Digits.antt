-- Facts about each digit that a number or a byte is written in.
use Rattle.std.proofs.Common.{◌≡◌, ℕ, zero, suc, ◌+◌, ◌<◌, ◌/◌, ◌%◌, ◌^◌, inl, inr, Bool, true, false, not, List, [], ◌∷◌, ap, ◌∙◌, arith, ℤ, pos, negsuc}
use Rattle.std.specs.Prelude.{◌&&◌, slice_index, decimal, FitsSigned}
use Rattle.std.specs.Int.{w64}
use Rattle.std.specs.Fmt.{signed_decimal}
use Rattle.std.specs.List.{AllByRecursion}
use Rattle.std.proofs.lemmas.Bool.{and_parts, cases_lt, not-true}
use Rattle.std.proofs.lemmas.Fmt.{decimal_by_steps}
use Rattle.std.proofs.lemmas.List.{get_or_past}
use Rattle.mvt_document.proofs.EachItem.{all_joined}
use Rattle.hex.specs.Hex.{encode_with, encode_lower, lower_digits}

-- ---- tests of the numbers below a number, which compute

abbrev pub passes_below : (ℕ → Bool) → ℕ → Bool
passes_below p zero = true
passes_below p (suc n) = p n && passes_below p n

pub passes_at : (p : ℕ → Bool) (n k : ℕ) → passes_below p n ≡ true → k < n → p k ≡ true
passes_at p zero k h lt = absurd (omega arith)
passes_at p (suc n) k h lt =
    let parts = and_parts (p n) (passes_below p n) h in
    elim (cases_lt k n) [
      | inl below ↦ passes_at p n k parts.1 below
      | inr top ↦
          let e : k ≡ n = omega arith in
          rw e parts.0
    ]

-- ---- hexadecimal digits

-- what a test says of the sixteen digits, and of 0, which comes after them
pub hex_digit_fails : (p : ℕ → Bool) → passes_below (λ d. not (p (slice_index lower_digits d))) 16 ≡ true → p 0 ≡ false → (d : ℕ) → p (slice_index lower_digits d) ≡ false
hex_digit_fails p digits past d =
    elim (cases_lt d 16) [
      | inl below ↦ not-true _ (passes_at (λ k. not (p (slice_index lower_digits k))) 16 d digits below)
      | inr over ↦ ap p (get_or_past lower_digits d 0 over) ∙ past
    ]

pub hex_all : (P : ℕ → Type 0) → ((d : ℕ) → P (slice_index lower_digits d)) → (bytes : List ℕ) → AllByRecursion P (encode_lower bytes)
unfolding encode_with
hex_all P digit [] = tt
hex_all P digit (b ∷ bytes) = (digit (b / 16), (digit (b % 16), hex_all P digit bytes))

-- ---- decimal digits

pub decimal_all : (P : ℕ → Type 0) → ((d : ℕ) → d < 10 → P (48 + d)) → (n : ℕ) → n < 2 ^ 64 → AllByRecursion P (decimal n)
decimal_all P digit n fits =
    decimal_by_steps (λ _ ds. AllByRecursion P ds) (λ d lt. (digit d lt, tt)) (λ m ds ge so_far. all_joined P ds ((48 + m % 10) ∷ []) so_far (digit (m % 10) (omega arith), tt)) n fits

pub signed_all : (P : ℕ → Type 0) → P 45 → ((d : ℕ) → d < 10 → P (48 + d)) → (z : ℤ) → FitsSigned w64 z → AllByRecursion P (signed_decimal z)
signed_all P dash digit (pos n) fits = decimal_all P digit n (omega (arith, fits))
signed_all P dash digit (negsuc n) fits = (dash, decimal_all P digit (suc n) (omega (arith, fits)))

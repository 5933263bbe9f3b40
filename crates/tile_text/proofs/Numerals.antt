-- Decimal digits are read as the number that they were written for.
use Rattle.std.proofs.Common.{◌≡◌, ℕ, suc, ◌+◌, ◌≤◌, ◌<◌, ◌^◌, true, false, eqb, leb, ltb, List, [], ◌∷◌, length, Option, Some, None, Ok, refl, ap, ◌∙◌, arith, ℤ, pos, negsuc}
use Rattle.std.specs.Prelude.{decimal, neg_ℤ, codes, option_map}
use Rattle.std.specs.Char.{is_ascii_digit}
use Rattle.std.specs.Fmt.{signed_decimal}
use Rattle.std.specs.List.{AllByRecursion}
use Rattle.std.specs.Str.{all_ascii_digits}
use Rattle.std.specs.Str.Parse.{digits_value}
use Rattle.std.proofs.lemmas.Bool.{lt-ltb, le-leb}
use Rattle.std.proofs.lemmas.Bool.Decides.{nat_tests}
use Rattle.std.proofs.lemmas.Fmt.{decimal_is_IsNumeral, decimal_nonempty}
use Rattle.tile_arguments.specs.Arguments.{after_mark, are_digits, number_of, number_up_to, signed_by, signed_of}
use Rattle.tile_text.proofs.Digits.{decimal_all}

digit_is_ascii : (d : ℕ) → d < 10 → is_ascii_digit (48 + d) ≡ true
digit_is_ascii d lt = grind (arith, nat_tests)

all_are : (bytes : List ℕ) → AllByRecursion (λ b. is_ascii_digit b ≡ true) bytes → all_ascii_digits bytes ≡ true
all_are [] h = refl
all_are (b ∷ bytes) h = rw (h.0, all_are bytes h.1) refl

some : (bytes : List ℕ) → 0 < length bytes → eqb (length bytes) 0 ≡ false
some bytes lt = grind (arith, nat_tests)

are_decimal : (n : ℕ) → n < 2 ^ 64 → are_digits (decimal n) ≡ true
are_decimal n fits = rw (some (decimal n) (decimal_nonempty n fits), all_are (decimal n) (decimal_all (λ b. is_ascii_digit b ≡ true) digit_is_ascii n fits)) refl

value_is : (n : ℕ) → n < 2 ^ 64 → digits_value 10 (decimal n) ≡ n
value_is n fits = (decimal_is_IsNumeral n fits).1

pub number_reads : (n : ℕ) → n < 2 ^ 64 → number_of (decimal n) ≡ Ok n
unfolding number_of
number_reads n fits =
    let small : ltb n (2 ^ 64) ≡ true = lt-ltb _ _ fits in
    rw (are_decimal n fits, value_is n fits, small) refl

up_to_reads : (most n : ℕ) → n ≤ most → n < 2 ^ 64 → number_up_to most (decimal n) ≡ Some n
unfolding number_up_to
up_to_reads most n le fits =
    let small : leb n most ≡ true = le-leb _ _ le in
    rw (are_decimal n fits, value_is n fits, small) refl

-- ---- signed numbers

-- from -least to greatest
abbrev pub Lies : ℕ → ℕ → ℤ → Type 0
Lies least greatest (pos n) = n ≤ greatest
Lies least greatest (negsuc n) = suc n ≤ least

-- digits do not begin with a `-`
no_dash : (bytes : List ℕ) → AllByRecursion (λ b. eqb 45 b ≡ false) bytes → 0 < length bytes → after_mark (codes "-") bytes ≡ None
no_dash [] h lt = absurd (omega arith)
no_dash (b ∷ bytes) h lt = rw (h.0) refl

digit_no_dash : (d : ℕ) → d < 10 → eqb 45 (48 + d) ≡ false
digit_no_dash d lt = grind (arith, nat_tests)

pub signed_reads : (least greatest : ℕ) (z : ℤ) → least < 2 ^ 64 → greatest < 2 ^ 64 → Lies least greatest z → signed_of least greatest (signed_decimal z) ≡ Some z
unfolding signed_of
signed_reads least greatest (pos n) low high lies =
    let fits : n < 2 ^ 64 = omega arith in
    ap (λ (o : Option (List ℕ)). signed_by least greatest o (decimal n)) (no_dash (decimal n) (decimal_all (λ b. eqb 45 b ≡ false) digit_no_dash n fits) (decimal_nonempty n fits))
    ∙ ap (option_map pos) (up_to_reads greatest n lies fits)
signed_reads least greatest (negsuc n) low high lies = ap (option_map (λ k. neg_ℤ (pos k))) (up_to_reads least (suc n) lies (omega arith))

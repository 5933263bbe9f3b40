-- The forms of texts and values are words.
use Rattle.std.proofs.Common.{◌≡◌, ◌≢◌, ◌⊎◌, inl, inr, ℕ, ◌<◌, ◌/◌, ◌%◌, Bool, true, false, cond, eqb, ◌||◌, List, [], ◌∷◌, ◌++◌, refl, arith}
use Rattle.std.specs.Prelude.{slice_index, codes}
use Rattle.std.specs.Char.{digit_value, is_ascii_control}
use Rattle.std.specs.List.{flat_map}
use Rattle.std.proofs.lemmas.Bool.{eqb-true, or_cases}
use Rattle.std.proofs.lemmas.Bool.Decides.{nat_tests}
use Rattle.hex.specs.Hex.{encode_with, encode_lower, lower_digits}
use Rattle.tile_lines.specs.Words.{Bare, Quoted, ends_bare}
use Rattle.tile_lines.specs.Spelling.{SpellsByte, SpellsText, SpellsWord}
use Rattle.tile_text.specs.Texts.{is_mark, quoted_byte, quoted}
use Rattle.tile_text.proofs.Digits.{passes_at, hex_digit_fails, hex_all}

-- ---- the digits

digit_is : (d : ℕ) → d < 16 → digit_value (slice_index lower_digits d) ≡ d
digit_is d lt = eqb-true _ d (passes_at (λ k. eqb (digit_value (slice_index lower_digits k)) k) 16 d refl lt)

pub hex_is_bare : (d : ℕ) → ends_bare (slice_index lower_digits d) ≡ false
hex_is_bare d = hex_digit_fails ends_bare refl refl d

-- ---- a byte of a quoted text

pub mark_is : (c : ℕ) → is_mark c ≡ true → (c ≡ 34) ⊎ (c ≡ 92)
mark_is c e = elim (or_cases (eqb c 34) (eqb c 92) e) [ inl quote ↦ inl (eqb-true c 34 quote) | inr slash ↦ inr (eqb-true c 92 slash) ]

control_below : (c : ℕ) → is_ascii_control c ≡ true → c < 128
control_below c e = grind (arith, nat_tests)

no_mark : (c : ℕ) → is_mark c ≡ false → (c ≢ 34) × (c ≢ 92)
no_mark c e = (λ quote. let t : is_mark c ≡ true = rw quote refl in cc, λ slash. let t : is_mark c ≡ true = rw slash refl in cc)

hex_spelled : (c : ℕ) → c < 128 → SpellsByte (92 ∷ 120 ∷ encode_lower (c ∷ [])) c
unfolding encode_with
hex_spelled c small =
    let high = digit_is (c / 16) (omega arith) in
    let low = digit_is (c % 16) (omega arith) in
    (refl, refl, omega (arith, high), omega (arith, low), omega (arith, high, low))

spelled_by : (c : ℕ) (mark control : Bool) → is_mark c ≡ mark → is_ascii_control c ≡ control → SpellsByte (cond mark (92 ∷ c ∷ []) (cond control (92 ∷ 120 ∷ encode_lower (c ∷ [])) (c ∷ []))) c
spelled_by c true control m k = (refl, refl, mark_is c m)
spelled_by c false true m k = hex_spelled c (control_below c k)
spelled_by c false false m k = (refl, (no_mark c m).0, (no_mark c m).1)

byte_spelled : (c : ℕ) → SpellsByte (quoted_byte c) c
byte_spelled c = spelled_by c (is_mark c) (is_ascii_control c) refl refl

text_spelled : (text : List ℕ) → SpellsText (flat_map quoted_byte text) text
text_spelled [] = refl
text_spelled (c ∷ text) = (quoted_byte c, flat_map quoted_byte text, refl, byte_spelled c, text_spelled text)

-- ---- words

pub quoted_spelled : (text : List ℕ) → SpellsWord (quoted text) (Quoted text)
quoted_spelled text = (flat_map quoted_byte text, refl, text_spelled text)

pub hex_text_spelled : (bytes : List ℕ) → SpellsWord (codes "x:" ++ encode_lower bytes) (Bare (codes "x:" ++ encode_lower bytes))
hex_text_spelled bytes = (refl, omega arith, (refl, (refl, hex_all (λ b. ends_bare b ≡ false) hex_is_bare bytes)))

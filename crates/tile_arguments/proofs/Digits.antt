-- A number as a loop over its digits reads it.
use Rattle.std.proofs.Common.{◌≡◌, ℕ, zero, suc, ◌+◌, ◌-◌, ◌*◌, ◌<◌, ◌≤◌, ◌^◌, Bool, true, false, cond, ltb, leb, eqb, not, List, [], ◌∷◌, ◌++◌, length, take, drop, get_or, map, Some, None, Ok, Err, refl, sym, ap, ◌∙◌, arith}
use Rattle.std.specs.Prelude.{◌&&◌}
use Rattle.std.specs.Str.{all_ascii_digits}
use Rattle.std.specs.Str.Parse.{digits_value}
use Rattle.std.specs.Char.{is_ascii_digit, digit_value}
use Rattle.std.specs.Int.Digits.{number_from_digits, number_from_digits_after}
use Rattle.std.proofs.lemmas.Bool.{ltb-true, ltb-false, lt-ltb, le-leb, lt-leb, and_parts}
use Rattle.std.proofs.lemmas.Bool.Decides.{nat_tests}
use Rattle.std.proofs.lemmas.List.{take-append-drop, map-append}
use Rattle.std.proofs.lemmas.Int.Digits.{digits_value_is, digits_value_more, number_after_append, number_after_ge}
use Rattle.tile_lines.specs.declared.parse_error.ParseError.TheVariants.{BadNumber}
use Rattle.tile_lines.specs.declared.parse_error.ParseError.{ParseError}
use Rattle.tile_arguments.specs.Arguments.{are_digits, is_number, number_of, number_up_to}

-- the value so far is no more than the whole
pub value_le : (bytes : List ℕ) (k : ℕ) → digits_value 10 (take k bytes) ≤ digits_value 10 bytes
value_le bytes k =
    let front = take k bytes in
    let rest = map digit_value (drop k bytes) in
    let whole : map digit_value bytes ≡ map digit_value front ++ rest = ap (map digit_value) (sym (take-append-drop k bytes)) ∙ map-append digit_value front (drop k bytes) in
    let value : digits_value 10 bytes ≡ number_from_digits_after 10 (digits_value 10 front) rest =
    digits_value_is 10 bytes ∙ ap (number_from_digits 10) whole ∙ number_after_append 10 0 (map digit_value front) rest ∙ ap (λ (n : ℕ). number_from_digits_after 10 n rest) (sym (digits_value_is 10 front)) in
    omega (arith, value, number_after_ge 10 (digits_value 10 front) rest (omega arith))

pub all_digits : (bytes : List ℕ) → ((k : ℕ) → k < length bytes → is_ascii_digit (get_or bytes k 0) ≡ true) → all_ascii_digits bytes ≡ true
all_digits [] each = refl
all_digits (b ∷ bytes) each = rw (each 0 (omega arith), all_digits bytes (λ k lt. each (suc k) (omega arith))) refl

pub digit_among : (bytes : List ℕ) (k : ℕ) → k < length bytes → all_ascii_digits bytes ≡ true → is_ascii_digit (get_or bytes k 0) ≡ true
digit_among [] k lt e = absurd (omega arith)
digit_among (b ∷ bytes) zero lt e = (and_parts (is_ascii_digit b) (all_ascii_digits bytes) e).0
digit_among (b ∷ bytes) (suc k) lt e = digit_among bytes k (omega arith) (and_parts (is_ascii_digit b) (all_ascii_digits bytes) e).1

pub no_number : (bytes : List ℕ) → (is_number bytes ≡ true → ⊥) → number_of bytes ≡ Err BadNumber
unfolding number_of
no_number bytes never = refuted (is_number bytes) refl
  where
    refuted : (b : Bool) → is_number bytes ≡ b → cond b (Ok (digits_value 10 bytes)) (Err BadNumber) ≡ Err BadNumber
    refuted true e = absurd (never e)
    refuted false e = refl

pub is_number_parts : (bytes : List ℕ) → is_number bytes ≡ true → (0 < length bytes) × (all_ascii_digits bytes ≡ true) × (digits_value 10 bytes < 2 ^ 64)
is_number_parts bytes e =
    let outer = and_parts (not (eqb (length bytes) 0) && all_ascii_digits bytes) (ltb (digits_value 10 bytes) (2 ^ 64)) e in
    let inner = and_parts (not (eqb (length bytes) 0)) (all_ascii_digits bytes) outer.0 in
    let some : not (eqb (length bytes) 0) ≡ true = inner.0 in
    (grind (arith, nat_tests), inner.1, ltb-true _ _ outer.1)

pub is_a_number : (bytes : List ℕ) → 0 < length bytes → all_ascii_digits bytes ≡ true → digits_value 10 bytes < 2 ^ 64 → number_of bytes ≡ Ok (digits_value 10 bytes)
unfolding number_of
is_a_number bytes some digits small =
    let one : eqb (length bytes) 0 ≡ false = grind (arith, nat_tests) in
    let two : ltb (digits_value 10 bytes) (2 ^ 64) ≡ true = lt-ltb _ _ small in
    rw (one, digits, two) refl

pub digit_is : (c : ℕ) → is_ascii_digit c ≡ true → digit_value c ≡ c - 48
digit_is c e = grind (arith, nat_tests)

pub stops_at_other : (bytes : List ℕ) (k : ℕ) → k < length bytes → is_ascii_digit (get_or bytes k 0) ≡ false → number_of bytes ≡ Err BadNumber
stops_at_other bytes k lt other =
    no_number bytes (λ e. let digit : is_ascii_digit (get_or bytes k 0) ≡ true = digit_among bytes k lt (is_number_parts bytes e).1 in absurd cc)

pub next_value : (bytes : List ℕ) (k value : ℕ) → k < length bytes → is_ascii_digit (get_or bytes k 0) ≡ true → value ≡ digits_value 10 (take k bytes)
    → value * 10 + (get_or bytes k 0 - 48) ≡ digits_value 10 (take (k + 1) bytes)
next_value bytes k value lt digit so_far = omega (arith, digits_value_more 10 bytes k lt, digit_is (get_or bytes k 0) digit)

pub stops_at_limit : (bytes : List ℕ) (k value : ℕ) → k < length bytes → is_ascii_digit (get_or bytes k 0) ≡ true → value ≡ digits_value 10 (take k bytes)
    → (value * 10 + (get_or bytes k 0 - 48) < 2 ^ 64 → ⊥) → number_of bytes ≡ Err BadNumber
stops_at_limit bytes k value lt digit so_far large =
    no_number bytes (λ e. large (omega (arith, (is_number_parts bytes e).2, value_le bytes (k + 1), next_value bytes k value lt digit so_far)))

number_ok : (bytes : List ℕ) (n : ℕ) → number_of bytes ≡ Ok n → (is_number bytes ≡ true) × (n ≡ digits_value 10 bytes)
unfolding number_of
number_ok bytes n e = tested (is_number bytes) refl e
  where
    tested : (b : Bool) → is_number bytes ≡ b → cond b (Ok (digits_value 10 bytes)) (Err BadNumber) ≡ Ok n → (is_number bytes ≡ true) × (n ≡ digits_value 10 bytes)
    tested true is e = (is, cc)
    tested false is e = absurd cc

number_err : (bytes : List ℕ) (error : ParseError) → number_of bytes ≡ Err error → is_number bytes ≡ false
unfolding number_of
number_err bytes error e = tested (is_number bytes) refl e
  where
    tested : (b : Bool) → is_number bytes ≡ b → cond b (Ok (digits_value 10 bytes)) (Err BadNumber) ≡ Err error → is_number bytes ≡ false
    tested true is e = absurd cc
    tested false is e = is

-- a number that is read, against a limit
pub within_limit : (most : ℕ) (bytes : List ℕ) (n : ℕ) → number_of bytes ≡ Ok n → n ≤ most → number_up_to most bytes ≡ Some n
unfolding number_up_to
within_limit most bytes n e le =
    let ok = number_ok bytes n e in
    let are : are_digits bytes ≡ true = (and_parts (are_digits bytes) (ltb (digits_value 10 bytes) (2 ^ 64)) ok.0).0 in
    let small : leb (digits_value 10 bytes) most ≡ true = le-leb _ _ (omega (arith, ok.1)) in
    rw (are, small, ok.1) refl

pub past_limit : (most : ℕ) (bytes : List ℕ) (n : ℕ) → number_of bytes ≡ Ok n → most < n → number_up_to most bytes ≡ None
unfolding number_up_to
past_limit most bytes n e lt =
    let ok = number_ok bytes n e in
    let are : are_digits bytes ≡ true = (and_parts (are_digits bytes) (ltb (digits_value 10 bytes) (2 ^ 64)) ok.0).0 in
    let large : leb (digits_value 10 bytes) most ≡ false = lt-leb _ _ (omega (arith, ok.1)) in
    rw (are, large) refl

pub no_number_up_to : (most : ℕ) (bytes : List ℕ) (error : ParseError) → most < 2 ^ 64 → number_of bytes ≡ Err error → number_up_to most bytes ≡ None
unfolding number_up_to
no_number_up_to most bytes error small e = tested (are_digits bytes) (number_err bytes error e)
  where
    tested : (b : Bool) → (b && ltb (digits_value 10 bytes) (2 ^ 64)) ≡ false → cond (b && leb (digits_value 10 bytes) most) (Some (digits_value 10 bytes)) None ≡ None
    tested false is = refl
    tested true is =
        let large : leb (digits_value 10 bytes) most ≡ false = lt-leb _ _ (omega (arith, ltb-false _ _ is)) in
        rw large refl

pub number_is : (bytes : List ℕ) → is_number bytes ≡ true → number_of bytes ≡ Ok (digits_value 10 bytes)
unfolding number_of
number_is bytes number = rw number refl

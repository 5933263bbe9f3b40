use Rattle.std.proofs.Common.{◌≡◌, ℕ, ◌<◌, true, false, get_or, length, Ok, sym, ap, ◌∙◌, below_more, arith}
use Rattle.std.specs.Char.{is_ascii_digit}
use Rattle.std.specs.Str.Parse.{digits_value}
use Rattle.std.proofs.lemmas.List.{take_all}
use Rattle.std.proofs.lemmas.Bool.Decides.{nat_tests}
use Rattle.tile_arguments.proofs.Digits.{stops_at_other, stops_at_limit, next_value, all_digits, is_a_number, is_number_parts, no_number}
use Rattle.tile_arguments.proofs.numbers.number.Goals as goal

pub returns-then-not-is_ascii_digit : goal.returns-then-not-is_ascii_digit
returns-then-not-is_ascii_digit c =
    let other : is_ascii_digit (get_or c.args.digits.now c.loop-digit.digit-index 0) ≡ false = grind arith in
    sym (stops_at_other c.args.digits.now c.loop-digit.digit-index c.loop-digit-test.true other)

pub returns-in_default : goal.returns-in_default
returns-in_default c =
    let digit : is_ascii_digit (get_or c.args.digits.now c.loop-digit.digit-index 0) ≡ true = grind arith in
    sym (stops_at_limit c.args.digits.now c.loop-digit.digit-index c.loop-digit.value c.loop-digit-test.true digit c.loop-digit.invariant.so_far c.in_default.ensures)

pub loop-digit-preserved : goal.loop-digit-preserved
loop-digit-preserved c =
    let digit : is_ascii_digit (get_or c.args.digits.now c.loop-digit.digit-index 0) ≡ true = grind arith in
    record {
      so_far = c.in-Some.ensures.1 ∙ next_value c.args.digits.now c.loop-digit.digit-index c.loop-digit.value c.loop-digit-test.true digit c.loop-digit.invariant.so_far;
      fits = omega (arith, c.in-Some.ensures.0, c.in-Some.ensures.1);
      digits = below_more _ _ c.loop-digit.invariant.digits digit;
    }

pub returns : goal.returns
returns c =
    let bytes = c.args.digits.now in
    let value : c.loop-digit.value ≡ digits_value 10 bytes = c.loop-digit.invariant.so_far ∙ ap (digits_value 10) (take_all c.loop-digit.digit-index bytes c.loop-digit-test.false) in
    let digits = all_digits bytes (λ k lt. c.loop-digit.invariant.digits k (omega arith)) in
    let some : 0 < length bytes = grind (arith, nat_tests) in
    sym (is_a_number bytes some digits (omega (arith, value, c.loop-digit.invariant.fits)) ∙ ap (λ (n : ℕ). Ok n) (sym value))

pub returns-then-is_empty : goal.returns-then-is_empty
returns-then-is_empty c = sym (no_number c.args.digits.now (λ e. let long = is_number_parts c.args.digits.now e in absurd (grind (arith, nat_tests))))

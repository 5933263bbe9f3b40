use Rattle.std.proofs.Common.{◌≡◌, ℕ, ◌<◌, ◌^◌, true, take, get_or}
use Rattle.std.specs.Char.{is_ascii_digit}
use Rattle.std.specs.Str.Parse.{digits_value}
use Rattle.tile_arguments.proofs.numbers.number.Given as goal

abbrev pub invariant-loop-digit : goal.invariant-loop-digit
invariant-loop-digit l = record {
  so_far : l.value ≡ digits_value 10 (take l.digit-index l.digits);
  fits : l.value < 2 ^ 64;
  digits : (k : ℕ) → k < l.digit-index → is_ascii_digit (get_or l.digits k 0) ≡ true;
}

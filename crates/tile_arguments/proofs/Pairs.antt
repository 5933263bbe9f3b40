-- Which digits are pairs of hexadecimal digits.
use Rattle.std.proofs.Common.{◌≡◌, ℕ, ◌%◌, Bool, true, false, List, [], ◌∷◌, length, Result, Ok, Err, refl, sym, ap}
use Rattle.std.specs.Prelude.{is_some}
use Rattle.std.specs.List.{AllByRecursion, list_all}
use Rattle.std.specs.Result.{result_ok}
use Rattle.std.proofs.lemmas.Bool.{and_parts}
use Rattle.std.proofs.lemmas.List.Elements.{All-from_recursion, recursion_from_All}
use Rattle.hex.specs.Hex.{decode_of, is_hex_digit}
use Rattle.hex.specs.declared.error.FromHexError.{FromHexError}
use Rattle.hex.proofs.HexLemmas.{decode_of-odd, decode_of-ok, decode_of-digits}
use Rattle.tile_arguments.specs.Arguments.{bytes_in}

all_pass : (p : ℕ → Bool) (xs : List ℕ) → list_all p xs ≡ true → AllByRecursion (λ x. p x ≡ true) xs
all_pass p [] e = tt
all_pass p (x ∷ xs) e = let both = and_parts (p x) (list_all p xs) e in (both.0, all_pass p xs both.1)

pass_all : (p : ℕ → Bool) (xs : List ℕ) → AllByRecursion (λ x. p x ≡ true) xs → list_all p xs ≡ true
pass_all p [] all = refl
pass_all p (x ∷ xs) all = rw (all.0, pass_all p xs all.1) refl

pub even_pairs : (digits : List ℕ) → length digits % 2 ≡ 0 → list_all is_hex_digit digits ≡ is_some (bytes_in digits)
unfolding bytes_in
even_pairs digits even = tested (list_all is_hex_digit digits) refl
  where
    refused : (r : Result (List ℕ) FromHexError) → decode_of digits ≡ r → list_all is_hex_digit digits ≡ false → false ≡ is_some (result_ok r)
    refused (Ok bytes) e other =
        let digit = pass_all is_hex_digit digits (recursion_from_All (λ b. is_hex_digit b ≡ true) digits (decode_of-ok digits bytes e).1) in
        absurd cc
    refused (Err fault) e other = refl

    tested : (b : Bool) → list_all is_hex_digit digits ≡ b → b ≡ is_some (result_ok (decode_of digits))
    tested true e =
        let found = decode_of-digits digits even (All-from_recursion (λ b. is_hex_digit b ≡ true) digits (all_pass is_hex_digit digits e)) in
        sym (ap (λ (r : Result (List ℕ) FromHexError). is_some (result_ok r)) found.1)
    tested false e = refused (decode_of digits) refl e

pub odd_pairs : (digits : List ℕ) → length digits % 2 ≡ 1 → is_some (bytes_in digits) ≡ false
unfolding bytes_in
odd_pairs digits odd = ap (λ (r : Result (List ℕ) FromHexError). is_some (result_ok r)) (decode_of-odd digits odd)

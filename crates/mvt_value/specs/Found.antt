-- The value of bytes, as a function. Which value bytes have is defined by the relation `HasValue`; the law `ValueIn`
-- says that this function is that relation.
use Rattle.std.specs.Prelude.{ℕ, ◌+◌, ◌*◌, ◌==◌, not, List, [], ◌∷◌, length, Option, Some, None, option_map, option_and_then, if◌then◌else◌}
use Rattle.std.specs.List.{flat_map}
use Rattle.mvt_document.specs.Plain.{Number}
use Rattle.mvt_messages.specs.Numbers.{pieces, number_in}
use Rattle.mvt_value.specs.Values.{Value, OfText, OfFloat, OfDouble, OfInt, OfUint, OfSint, OfBool}
use Rattle.mvt_document.specs.Signed.{unzigzag}
use Rattle.mvt_value.specs.Signed.{signed}

-- a number at the beginning of bytes, and the bytes after it (guide, Base 128 Varints)
pub record Front : Type 0 where
  pub number : Number
  pub rest : List ℕ

-- the number that the first piece spells, and the bytes of the others after it, where it spells one
abbrev pub first_piece : List (List ℕ) → Option Front
first_piece [] = None
first_piece (piece ∷ more) = option_map (λ number. record { number = number; rest = flat_map (λ piece. piece) more }) (number_in piece)

-- the number at the beginning of the bytes, up to the first byte without the top bit, and the bytes after it
-- (guide, Base 128 Varints)
abbrev pub front_in : List ℕ → Option Front
front_in bytes = first_piece (pieces bytes)

-- the bytes, where there are `count` of them
abbrev pub if_length : ℕ → List ℕ → Option (List ℕ)
if_length count bytes = if length bytes == count then Some bytes else None

-- the bytes after their length, where that is how many there are (guide, Length-Delimited Records)
abbrev pub delimited_in : List ℕ → Option (List ℕ)
delimited_in bytes = option_and_then (λ (front : Front). if_length front.number.value front.rest) (front_in bytes)

-- the value that a number stands for after this tag, which is 8 times the field's number, and wire type 0 (tiles 4.1)
abbrev pub value_of_number : ℕ → ℕ → Option Value
value_of_number tag n =
    if tag == 8 * 4 + 0 then Some (OfInt (signed n))
    else if tag == 8 * 5 + 0 then Some (OfUint n)
    else if tag == 8 * 6 + 0 then Some (OfSint (unzigzag n))
    else if tag == 8 * 7 + 0 then Some (OfBool (not (n == 0)))
    else None

-- the value that bytes stand for after this tag: a text, a float, or a number (tiles 4.1)
abbrev pub value_after : ℕ → List ℕ → Option Value
value_after tag bytes =
    if tag == 8 * 1 + 2 then option_map OfText (delimited_in bytes)
    else if tag == 8 * 2 + 5 then option_map OfFloat (if_length 4 bytes)
    else if tag == 8 * 3 + 1 then option_map OfDouble (if_length 8 bytes)
    else option_and_then (λ (n : Number). value_of_number tag n.value) (number_in bytes)

-- the value of the bytes: a tag, and what follows it up to the end, where these are a value (tiles 4.1)
unfoldable pub value_in : List ℕ → Option Value
value_in bytes = option_and_then (λ (front : Front). value_after front.number.value front.rest) (front_in bytes)

-- The first place that passes a test, as an option and as a number.
use Rattle.std.proofs.Common.{◌≡◌, ℕ, ◌≤◌, Bool, true, false, cond, ltb, List, length, Option, Some, None, refl, ap, ◌∙◌, arith}
use Rattle.std.specs.Prelude.{unwrap_or}
use Rattle.std.specs.List.{position, position_or_len}
use Rattle.std.proofs.lemmas.Bool.{ltb-false}
use Rattle.std.proofs.lemmas.List.Sums.{prefix_len-le-length}

at_place : (b : Bool) (i len : ℕ) → ltb i len ≡ b → i ≤ len → unwrap_or (cond b (Some i) None) len ≡ i
at_place true i len e le = refl
at_place false i len e le = omega (arith, ltb-false i len e)

pub place_le : (p : ℕ → Bool) (xs : List ℕ) → position_or_len p xs ≤ length xs
place_le p xs = prefix_len-le-length _ xs

pub place_from_position : (p : ℕ → Bool) (xs : List ℕ) (r : Option ℕ) (n : ℕ) → r ≡ position p xs → n ≡ unwrap_or r (length xs) → n ≡ position_or_len p xs
place_from_position p xs r n found is =
    is ∙ ap (λ (o : Option ℕ). unwrap_or o (length xs)) found ∙ at_place (ltb (position_or_len p xs) (length xs)) (position_or_len p xs) (length xs) refl (place_le p xs)

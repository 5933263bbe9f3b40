-- Points around the first comma.
use Rattle.std.proofs.Common.{◌≡◌, ℕ, ◌+◌, ◌<◌, Bool, true, false, cond, ltb, List, [], length, take, drop, Option, Some, None, ℤ, refl, ap, ◌∙◌, arith}
use Rattle.std.specs.Prelude.{◌==◌}
use Rattle.std.specs.List.{position, position_or_len}
use Rattle.std.proofs.lemmas.Bool.{ltb-true, ltb-false}
use Rattle.std.proofs.lemmas.List.{drop_all}
use Rattle.tile_lines.proofs.Places.{place_le}
use Rattle.tile_arguments.specs.Arguments.{after_mark, number_up_to, signed_of, delta_of, point_at, point_in}

place_found : (p : ℕ → Bool) (xs : List ℕ) (k : ℕ) → position p xs ≡ Some k → (position_or_len p xs ≡ k) × (k < length xs)
place_found p xs k e = tested (ltb (position_or_len p xs) (length xs)) refl e
  where
    tested : (b : Bool) → ltb (position_or_len p xs) (length xs) ≡ b → cond b (Some (position_or_len p xs)) None ≡ Some k → (position_or_len p xs ≡ k) × (k < length xs)
    tested true is e = let same : position_or_len p xs ≡ k = cc in (same, omega (arith, same, ltb-true _ _ is))
    tested false is e = absurd cc

place_none : (p : ℕ → Bool) (xs : List ℕ) → position p xs ≡ None → position_or_len p xs ≡ length xs
place_none p xs e = tested (ltb (position_or_len p xs) (length xs)) refl e
  where
    tested : (b : Bool) → ltb (position_or_len p xs) (length xs) ≡ b → cond b (Some (position_or_len p xs)) None ≡ None → position_or_len p xs ≡ length xs
    tested true is e = absurd cc
    tested false is e = omega (arith, ltb-false _ _ is, place_le p xs)

around_comma : (bytes : List ℕ) (k : ℕ) → position (λ b. b == 44) bytes ≡ Some k → point_in bytes ≡ point_at (delta_of (take k bytes)) (delta_of (drop (k + 1) bytes))
unfolding point_in
around_comma bytes k e = ap (λ (n : ℕ). point_at (delta_of (take n bytes)) (delta_of (drop (n + 1) bytes))) (place_found (λ b. b == 44) bytes k e).0

no_delta : delta_of [] ≡ None
unfolding signed_of number_up_to
no_delta = refl

no_second : (x : Option ℤ) → point_at x None ≡ None
no_second None = refl
no_second (Some x) = refl

pub without_comma : (bytes : List ℕ) → position (λ b. b == 44) bytes ≡ None → point_in bytes ≡ None
unfolding point_in
without_comma bytes e =
    let place = place_none (λ b. b == 44) bytes e in
    let nothing : drop (position_or_len (λ b. b == 44) bytes + 1) bytes ≡ [] = drop_all (position_or_len (λ b. b == 44) bytes + 1) bytes (omega (arith, place)) in
    ap (λ (rest : List ℕ). point_at (delta_of (take (position_or_len (λ b. b == 44) bytes) bytes)) (delta_of rest)) nothing
    ∙ ap (λ (y : Option ℤ). point_at (delta_of (take (position_or_len (λ b. b == 44) bytes) bytes)) y) no_delta
    ∙ no_second (delta_of (take (position_or_len (λ b. b == 44) bytes) bytes))

pub without_x : (bytes x : List ℕ) (k : ℕ) → position (λ b. b == 44) bytes ≡ Some k → x ≡ take k bytes → delta_of x ≡ None → point_in bytes ≡ None
without_x bytes x k e front none = around_comma bytes k e ∙ rw (← front, none) refl

pub without_y : (bytes y : List ℕ) (k : ℕ) → position (λ b. b == 44) bytes ≡ Some k → y ≡ drop (k + 1) bytes → delta_of y ≡ None → point_in bytes ≡ None
without_y bytes y k e after_mark none = around_comma bytes k e ∙ rw (← after_mark, none) (no_second (delta_of (take k bytes)))

pub with_both : (bytes x y : List ℕ) (k : ℕ) (along down : ℤ) → position (λ b. b == 44) bytes ≡ Some k → x ≡ take k bytes → y ≡ drop (k + 1) bytes → delta_of x ≡ Some along → delta_of y ≡ Some down → point_in bytes ≡ Some (record { x = along; y = down })
with_both bytes x y k along down e front after_mark first second = around_comma bytes k e ∙ rw (← front, ← after_mark, first, second) refl

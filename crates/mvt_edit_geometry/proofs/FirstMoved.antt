-- The first integers of a geometry are read, and what is decided on them.
use Rattle.std.proofs.Common.{◌≡◌, ℕ, ◌&&◌, Bool, true, false, ℤ, Option, Some, None, Result, Ok, Err, List, [], ◌∷◌, drop, map, option_map, slice_get, refl, ap, sym}
use Rattle.std.specs.Option.{option_and_then, option_map_or}
use Rattle.std.specs.Result.{result_ok}
use Rattle.mvt_document.specs.Plain.{Field}
use Rattle.mvt_messages.specs.Numbers.{Placed, all_good, and_more}
use Rattle.mvt_messages.specs.Attributes.{values_in}
use Rattle.mvt_meaning.specs.Geometries.{can_move, can_move_integers, moved_integers, moves}
use Rattle.mvt_edit_geometry.proofs.FirstIntegers.{FirstIntegers}

-- ---- the next number

one_read : (p : Placed) (found : Option (List Placed)) (value : ℕ) (more : List ℕ) → option_map (map (λ (q : Placed). q.number.value)) (and_more p found) ≡ Some (value ∷ more) → (Some p.number.value ≡ Some value) × (option_map (map (λ (q : Placed). q.number.value)) found ≡ Some more)
one_read p None value more is = absurd cc
one_read p (Some list) value more is =
    let first : p.number.value ≡ value = cc in
    let rest : map (λ (q : Placed). q.number.value) list ≡ more = cc in
    (ap Some first, ap Some rest)

-- of numbers none of whose chunks is bad, the first chunk gives the first, and the chunks after it give the others
pub next_read : (chunks : List (Result Placed ℕ)) (value : ℕ) (more : List ℕ) → values_in chunks ≡ Some (value ∷ more) → (option_map (λ (p : Placed). p.number.value) (option_and_then result_ok (slice_get chunks 0)) ≡ Some value) × (values_in (drop 1 chunks) ≡ Some more)
next_read [] value more is = absurd cc
next_read (Err bad ∷ chunks) value more is = absurd cc
next_read (Ok p ∷ chunks) value more is = one_read p (all_good chunks) value more is

-- ---- the first integers

module _ (dx dy : ℤ) (fields : List Field) (first : FirstIntegers fields) (command x y : ℕ) (same : command ≡ first.command) (across : x ≡ first.x) (down : y ≡ first.y) where
  pub first_moved : moved_integers dx dy (command ∷ x ∷ y ∷ []) ≡ moves dx dy fields
  first_moved = rw (same, across, down) (sym (ap (λ found. option_map_or (moved_integers dx dy) found []) first.read))

  pub first_can : can_move_integers dx dy (command ∷ x ∷ y ∷ []) ≡ can_move dx dy fields
  first_can = rw (across, down) (sym (ap (λ found. option_map_or (can_move_integers dx dy) found true) first.read))

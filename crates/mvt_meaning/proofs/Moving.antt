-- A geometry that moves: what is decided on its integers can be spelled.
use Rattle.std.proofs.Common.{◌≡◌, ℕ, ◌^◌, ◌<◌, true, ℤ, pos, negsuc, is_some, Option, Some, None, List, [], ◌∷◌, refl, sym, subst, arith}
use Rattle.std.specs.Prelude.{unsigned_abs}
use Rattle.std.proofs.lemmas.Bool.{and_parts, ltb-true}
use Rattle.std.specs.List.{AllByRecursion}
use Rattle.std.specs.Option.{option_and_then, option_map_or, unwrap_or}
use Rattle.mvt_document.specs.Plain.{Field}
use Rattle.mvt_document.specs.Signed.{zigzag}
use Rattle.mvt_renumber.specs.Laws.{AreShort}
use Rattle.mvt_geometry.specs.Checks.{is_delta}
use Rattle.mvt_geometry.specs.Found.{geometry_in}
use Rattle.mvt_geometry.specs.Integers.{integers}
use Rattle.mvt_geometry.specs.Shapes.{Geometry}
use Rattle.mvt_geometry.proofs.Found.{has_found_geometry}
use Rattle.mvt_geometry.proofs.Small.{packs_integers}
use Rattle.mvt_messages.specs.Views.{last_value}
use Rattle.mvt_meaning.specs.Geometries.{can_move, can_move_integers, further, geometry_among, integers_among, moved_integers, moves}

-- ---- integers

delta_short : (delta : ℤ) → unsigned_abs delta < 2 ^ 31 → zigzag delta < 2 ^ 64
delta_short (pos n) h = omega arith
delta_short (negsuc n) h = omega arith

abbrev pub IsShort : ℕ → Type 0
IsShort integer = integer < 2 ^ 32

-- the integers of a geometry have 32 bits
drawn_short : (kind : ℕ) (list : List ℕ) (found : Option Geometry) → geometry_in kind list ≡ found → is_some found ≡ true → AllByRecursion IsShort list
drawn_short kind list None is some = absurd cc
drawn_short kind list (Some g) is some =
    let has = has_found_geometry kind list g is in
    subst (AllByRecursion IsShort) (sym has.spelled) (packs_integers g has.valid has.in_range).short

moved_short : (dx dy : ℤ) (list : List ℕ) → AllByRecursion IsShort list → can_move_integers dx dy list ≡ true → AreShort (moved_integers dx dy list)
moved_short dx dy [] all can = tt
moved_short dx dy (command ∷ []) all can = tt
moved_short dx dy (command ∷ x ∷ []) all can = tt
moved_short dx dy (command ∷ x ∷ y ∷ more) all can =
    let both = and_parts (is_delta (further dx x)) (is_delta (further dy y)) can in
    let along = delta_short (further dx x) (ltb-true (unsigned_abs (further dx x)) (2 ^ 31) both.0) in
    let down = delta_short (further dy y) (ltb-true (unsigned_abs (further dy y)) (2 ^ 31) both.1) in
    (omega (arith, all.0), (along, (down, tt)))

-- ---- fields

moves_by : (dx dy : ℤ) (kind : ℕ) (found : Option (List ℕ)) → is_some (option_and_then (geometry_in kind) found) ≡ true → option_map_or (can_move_integers dx dy) found true ≡ true → AreShort (option_map_or (moved_integers dx dy) found [])
moves_by dx dy kind None drawn can = tt
moves_by dx dy kind (Some list) drawn can = moved_short dx dy list (drawn_short kind list (geometry_in kind list) refl drawn) can

pub moves_short : (dx dy : ℤ) (fields : List Field) → is_some (geometry_among fields) ≡ true → can_move dx dy fields ≡ true → AreShort (moves dx dy fields)
moves_short dx dy fields drawn can = moves_by dx dy (unwrap_or (last_value 3 fields) 0) (integers_among fields) drawn can

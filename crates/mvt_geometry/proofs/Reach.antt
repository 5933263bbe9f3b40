-- How far from the origin deltas in range lead: with each point at most 2^31 further.
use Rattle.std.proofs.Common.{ℕ, ◌+◌, ◌*◌, ◌^◌, ◌≤◌, ℤ, pos, negsuc, ◌-ℤ◌, List, [], ◌∷◌, length, length-append, arith}
use Rattle.std.specs.Prelude.{unsigned_abs}
use Rattle.std.proofs.lemmas.Int.{ints}
use Rattle.std.specs.List.{AllByRecursion}
use Rattle.mvt_document.proofs.EachItem.{all_apart}
use Rattle.mvt_geometry.specs.Shapes.{Point, Kind, Dots, Lines, Areas}
use Rattle.mvt_geometry.specs.Integers.{deltas, parameters, last_from, path, paths, closing_of, all_points, origin, integers_of, IsDelta}
use Rattle.mvt_geometry.specs.Laws.{IntegersReach, IsWithin}
use Rattle.mvt_geometry.proofs.Fronts.{length-parameters}

-- ---- one delta

abs_step : (from to : ℤ) → unsigned_abs to ≤ unsigned_abs from + unsigned_abs (to -ℤ from)
abs_step (pos m) (pos n) = omega (arith, ints)
abs_step (pos m) (negsuc n) = omega (arith, ints)
abs_step (negsuc m) (pos n) = omega (arith, ints)
abs_step (negsuc m) (negsuc n) = omega (arith, ints)

-- ---- all points

reaches : (most far : ℕ) (from : Point) (points : List Point) → IsWithin far from → AllByRecursion IsDelta (deltas from points) → far + length points * 2 ^ 31 ≤ most → AllByRecursion (IsWithin most) points
reaches most far from [] within short bound = tt
reaches most far from (to ∷ points) within short bound =
    let next : IsWithin (far + 2 ^ 31) to = record {
      x = omega (arith, abs_step from.x to.x, within.x, short.0);
      y = omega (arith, abs_step from.y to.y, within.y, short.1.0);
    } in
    (record { x = omega (arith, next.x); y = omega (arith, next.y) }, reaches most (far + 2 ^ 31) to points next short.1.1 (omega (arith, bound)))

in_parts : (P : Point → Type 0) (parts : List (List Point)) → AllByRecursion P (all_points parts) → AllByRecursion (AllByRecursion P) parts
in_parts P [] all = tt
in_parts P (part ∷ parts) all = let apart = all_apart P part (all_points parts) all in (apart.0, in_parts P parts apart.1)

-- ---- a geometry has no more points than integers

path_points : (closing : List ℕ) (from : Point) (points : List Point) → length points ≤ length (path closing from points)
path_points closing from [] = omega arith
path_points closing from (first ∷ points) = omega (arith, length-append (parameters first points) closing, length-parameters first points)

paths_points : (closing : List ℕ) (from : Point) (parts : List (List Point)) → length (all_points parts) ≤ length (paths closing from parts)
paths_points closing from [] = omega arith
paths_points closing from (part ∷ parts) =
    omega (arith, path_points closing from part, paths_points closing (last_from from part) parts, length-append part (all_points parts), length-append (path closing from part) (paths closing (last_from from part) parts))

few_points : (kind : Kind) (parts : List (List Point)) → length (all_points parts) ≤ length (integers_of kind parts)
few_points Dots parts = omega (arith, length-parameters origin (all_points parts))
few_points Lines parts = paths_points (closing_of Lines) origin parts
few_points Areas parts = paths_points (closing_of Areas) origin parts

pub integers_reach : IntegersReach
integers_reach g range =
    let most : ℕ = length (integers_of g.kind g.parts) * 2 ^ 31 in
    in_parts (IsWithin most) g.parts
    (reaches most 0 origin (all_points g.parts) (record { x = omega arith; y = omega arith }) range.short (omega (arith, few_points g.kind g.parts)))

-- The geometry that is found in numbers is the one that they have.
use Rattle.std.proofs.Common.{◌≡◌, ℕ, zero, suc, ◌+◌, ◌*◌, ◌/◌, ◌≤◌, ℤ, ◌+ℤ◌, ◌-ℤ◌, List, [], ◌∷◌, ◌++◌, length, take, drop, true, refl, sym, ap, ◌∙◌, subst, append_assoc, arith}
use Rattle.std.specs.Prelude.{Option, Some, None}
use Rattle.std.specs.List.{AllByRecursion}
use Rattle.std.proofs.lemmas.Bool.{cond-true}
use Rattle.std.proofs.lemmas.Option.{cond_some}
use Rattle.std.proofs.lemmas.Int.{ints}
use Rattle.std.proofs.lemmas.List.{append-nil, length-append, take_at, drop_at}
use Rattle.mvt_geometry.specs.declared.shapes.Point.{Point}
use Rattle.mvt_geometry.specs.declared.shapes.Kind.{Kind}
use Rattle.mvt_geometry.specs.declared.shapes.Kind.TheVariants.{Dots, Lines, Areas}
use Rattle.mvt_geometry.specs.Shapes.{kind_number, Geometry, IsPart, IsGeometry}
use Rattle.mvt_geometry.specs.Integers.{command, origin, parameters, last_from, path, paths, all_points, integers_of, HasGeometry}
use Rattle.mvt_document.specs.Signed.{zigzag, unzigzag}
use Rattle.mvt_geometry.specs.Checks.{has_geometry}
use Rattle.mvt_geometry.specs.Found.{point_after, points_in, parts_in, parts_of, kind_numbered, guessed, geometry_in}
use Rattle.mvt_geometry.specs.Laws.{GeometryIn}
use Rattle.mvt_document.proofs.Signed.{unzigzag-zigzag}
use Rattle.mvt_geometry.proofs.Checks.{has_geometry-Decides}
use Rattle.mvt_geometry.proofs.Fronts.{length-parameters}

-- ---- points

step : (from to : ℤ) → from +ℤ unzigzag (zigzag (to -ℤ from)) ≡ to
step from to =
    ap (λ (delta : ℤ). from +ℤ delta) (unzigzag-zigzag (to -ℤ from)) ∙ back
  where
    back : from +ℤ (to -ℤ from) ≡ to
    back = omega (arith, ints)

moved-delta : (from to : Point) → point_after from (zigzag (to.x -ℤ from.x)) (zigzag (to.y -ℤ from.y)) ≡ to
moved-delta from to =
    ap (λ (x : ℤ). record { x = x; y = from.y +ℤ unzigzag (zigzag (to.y -ℤ from.y)) }) (step from.x to.x)
    ∙ ap (λ (y : ℤ). record { x = to.x; y = y }) (step from.y to.y)

points_in-parameters : (from : Point) (points : List Point) → points_in from (parameters from points) ≡ points
points_in-parameters from [] = refl
points_in-parameters from (to ∷ points) =
    ap (λ (p : Point). p ∷ points_in p (parameters to points)) (moved-delta from to)
    ∙ ap (λ (rest : List Point). to ∷ rest) (points_in-parameters to points)

-- ---- parts

-- the part that these parameters lead through, and the parts after it
abbrev part_and : (Point → List ℕ → List (List Point)) → Point → List ℕ → List ℕ → List (List Point)
part_and parts from parameters rest = points_in from parameters ∷ parts (last_from from (points_in from parameters)) rest

-- what is guessed in the path of a part and the rest after it
part-path : (closing : List ℕ) (most : ℕ) (from first : Point) (points : List Point) (rest : List ℕ)
    → parts_in (length closing) (suc most) from (path closing from (first ∷ points) ++ rest) ≡ (first ∷ points) ∷ parts_in (length closing) most (last_from first points) rest
part-path closing most from first points rest =
    let numbers : List ℕ = parameters first points in
    let count : ℕ = 2 * (command 2 (length points) / 8) in
    let following : List ℕ = (numbers ++ closing) ++ rest in
    let begin : List ℕ = parameters from (first ∷ []) in
    let more = parts_in (length closing) most in
    let counted : length numbers ≡ count = omega (arith, length-parameters first points) in
    let whole : length (numbers ++ closing) ≡ count + length closing = omega (arith, counted, length-append numbers closing) in
    ap (λ (t : List ℕ). part_and more from (begin ++ t) (drop (count + length closing) following)) (ap (take count) (append_assoc numbers closing rest) ∙ take_at numbers (closing ++ rest) count counted)
    ∙ ap (λ (d : List ℕ). part_and more from (begin ++ numbers) d) (drop_at (numbers ++ closing) rest (count + length closing) whole)
    ∙ ap (λ (part : List Point). part ∷ more (last_from from part) rest) (points_in-parameters from (first ∷ points))

-- each part has a point
abbrev AreSome : List (List Point) → Type 0
AreSome parts = AllByRecursion (λ (points : List Point). 1 ≤ length points) parts

parts_in-paths : (closing : List ℕ) (most : ℕ) (from : Point) (parts : List (List Point)) → length parts ≤ most → AreSome parts → parts_in (length closing) most from (paths closing from parts) ≡ parts
parts_in-paths closing zero from [] within some = refl
parts_in-paths closing (suc most) from [] within some = refl
parts_in-paths closing zero from (part ∷ parts) within some = absurd (omega arith)
parts_in-paths closing (suc most) from ([] ∷ parts) within some = absurd (omega (arith, some.0))
parts_in-paths closing (suc most) from ((first ∷ points) ∷ parts) within some =
    part-path closing most from first points (paths closing (last_from first points) parts)
    ∙ ap (λ (rest : List (List Point)). (first ∷ points) ∷ rest) (parts_in-paths closing most (last_from first points) parts (omega arith) some.1)

-- paths have at least as many numbers as parts
paths_long : (closing : List ℕ) (from : Point) (parts : List (List Point)) → AreSome parts → length parts ≤ length (paths closing from parts)
paths_long closing from [] some = omega arith
paths_long closing from ([] ∷ parts) some = absurd (omega (arith, some.0))
paths_long closing from ((first ∷ points) ∷ parts) some =
    omega (arith, paths_long closing (last_from first points) parts some.1, length-append (path closing from (first ∷ points)) (paths closing (last_from first points) parts))

some_points : (kind : Kind) (parts : List (List Point)) → AllByRecursion (IsPart kind) parts → AreSome parts
some_points kind [] p = tt
some_points Dots (part ∷ parts) p = (omega (arith, p.0.enough), some_points Dots parts p.1)
some_points Lines (part ∷ parts) p = (omega (arith, p.0.enough), some_points Lines parts p.1)
some_points Areas (part ∷ parts) p = (omega (arith, p.0.enough), some_points Areas parts p.1)

-- ---- the guess

one_part : (parts : List (List Point)) → length parts ≡ 1 → points_in origin (parameters origin (all_points parts)) ∷ [] ≡ parts
one_part [] e = absurd (omega arith)
one_part (part ∷ []) e = ap (λ (points : List Point). points ∷ []) (points_in-parameters origin (all_points (part ∷ [])) ∙ append-nil part)
one_part (part ∷ other ∷ more) e = absurd (omega arith)

parts_of-integers : (kind : Kind) (parts : List (List Point)) → IsGeometry (record { kind = kind; parts = parts }) → parts_of kind (integers_of kind parts) ≡ parts
parts_of-integers Dots parts valid = one_part parts valid.counted
parts_of-integers Lines parts valid =
    let some : AreSome parts = some_points Lines parts valid.parts in
    parts_in-paths [] (length (paths [] origin parts)) origin parts (paths_long [] origin parts some) some
parts_of-integers Areas parts valid =
    let some : AreSome parts = some_points Areas parts valid.parts in
    let closing : List ℕ = command 7 1 ∷ [] in
    parts_in-paths closing (length (paths closing origin parts)) origin parts (paths_long closing origin parts some) some

kind_of-number : (kind : Kind) → kind_numbered (kind_number kind) ≡ kind
kind_of-number Dots = refl
kind_of-number Lines = refl
kind_of-number Areas = refl

guessed-integers : (kind : ℕ) (numbers : List ℕ) (g : Geometry) → HasGeometry kind numbers g → guessed kind numbers ≡ g
guessed-integers kind numbers g h =
    let same : kind_numbered kind ≡ g.kind = ap kind_numbered h.of_kind ∙ kind_of-number g.kind in
    ap (λ (k : Kind). record { kind = k; parts = parts_of k numbers }) same
    ∙ ap (λ (n : List ℕ). record { kind = g.kind; parts = parts_of g.kind n }) h.spelled
    ∙ ap (λ (parts : List (List Point)). record { kind = g.kind; parts = parts }) (parts_of-integers g.kind g.parts h.valid)

-- ---- the law

pub found_geometry : (kind : ℕ) (numbers : List ℕ) (g : Geometry) → HasGeometry kind numbers g → geometry_in kind numbers ≡ Some g
unfolding geometry_in
found_geometry kind numbers g h =
    let guess : guessed kind numbers ≡ g = guessed-integers kind numbers g h in
    let is : has_geometry kind numbers (guessed kind numbers) ≡ true = (has_geometry-Decides kind numbers (guessed kind numbers)).1 (subst (HasGeometry kind numbers) (sym guess) h) in
    cond-true (has_geometry kind numbers (guessed kind numbers)) _ _ is ∙ ap Some guess

pub has_found_geometry : (kind : ℕ) (numbers : List ℕ) (g : Geometry) → geometry_in kind numbers ≡ Some g → HasGeometry kind numbers g
unfolding geometry_in
has_found_geometry kind numbers g e =
    let found = cond_some (has_geometry kind numbers (guessed kind numbers)) (guessed kind numbers) g e in
    subst (HasGeometry kind numbers) found.1 ((has_geometry-Decides kind numbers (guessed kind numbers)).0 found.0)

pub geometry_in_numbers : GeometryIn
geometry_in_numbers kind numbers g = (has_found_geometry kind numbers g, found_geometry kind numbers g)

none_or : (kind : ℕ) (numbers : List ℕ) (found : Option Geometry) → geometry_in kind numbers ≡ found → ((g : Geometry) → HasGeometry kind numbers g → ⊥) → found ≡ None
none_or kind numbers None e none = refl
none_or kind numbers (Some g) e none = absurd (none g (has_found_geometry kind numbers g e))

-- in numbers with no geometry none is found
pub no_geometry_in : (kind : ℕ) (numbers : List ℕ) → ((g : Geometry) → HasGeometry kind numbers g → ⊥) → geometry_in kind numbers ≡ None
no_geometry_in kind numbers none = none_or kind numbers (geometry_in kind numbers) refl none

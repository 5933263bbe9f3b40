-- The geometry of numbers, as a function. Which geometry numbers have is defined by the relation `HasGeometry`; the
-- law `GeometryIn` says that this function is that relation.
use Rattle.std.specs.Prelude.{ℕ, suc, ◌+◌, ◌*◌, ◌/◌, ◌==◌, ◌+ℤ◌, List, [], ◌∷◌, length, take, drop, Option, Some, None, if◌then◌else◌}
use Rattle.mvt_geometry.specs.declared.shapes.Point.{Point}
use Rattle.mvt_geometry.specs.declared.shapes.Kind.{Kind}
use Rattle.mvt_geometry.specs.declared.shapes.Kind.TheVariants.{Dots, Lines, Areas}
use Rattle.mvt_geometry.specs.Shapes.{Geometry}
use Rattle.mvt_geometry.specs.Integers.{origin, last_from, closing_of}
use Rattle.mvt_document.specs.Signed.{unzigzag}
use Rattle.mvt_geometry.specs.Checks.{has_geometry}

-- ---- a guess, which takes the numbers at their word

-- the point to which two parameters lead (tiles 4.3.2)
abbrev pub point_after : Point → ℕ → ℕ → Point
point_after from x y = record { x = from.x +ℤ unzigzag x; y = from.y +ℤ unzigzag y }

-- the points to which parameters lead, two for each point; one that is left over leads nowhere (tiles 4.3.2)
abbrev pub points_in : Point → List ℕ → List Point
points_in from (x ∷ y ∷ more) = point_after from x y ∷ points_in (point_after from x y) more
points_in from numbers = []

-- the parts that numbers would have, if each part were MoveTo, x, y, LineTo, its parameters and then `closing` more
-- numbers; each part goes on from where the one before it ended (tiles 4.3.1)
abbrev pub parts_in : ℕ → ℕ → Point → List ℕ → List (List Point)
parts_in closing (suc most) from (move ∷ x ∷ y ∷ line ∷ following) =
    let count = 2 * (line / 8) in
    let part = points_in from (x ∷ y ∷ take count following) in
    part ∷ parts_in closing most (last_from from part) (drop (count + closing) following)
parts_in closing most from numbers = []

-- the parts of this kind that numbers would have, if their commands were as they should be (tiles 4.3.1)
abbrev pub parts_of : Kind → List ℕ → List (List Point)
parts_of Dots numbers = points_in origin (drop 1 numbers) ∷ []
parts_of kind numbers = parts_in (length (closing_of kind)) (length numbers) origin numbers

-- the kind with this number; for any number but 1 and 2 it is areas
abbrev pub kind_numbered : ℕ → Kind
kind_numbered number = if number == 1 then Dots else if number == 2 then Lines else Areas

-- the geometry that numbers would have, if their commands were as they should be (tiles 4.3.1)
abbrev pub guessed : ℕ → List ℕ → Geometry
guessed kind numbers = record { kind = kind_numbered kind; parts = parts_of (kind_numbered kind) numbers }

-- ---- the guess, where the numbers have it

-- the guessed geometry, where the numbers have it (tiles 4.3)
unfoldable pub geometry_in : ℕ → List ℕ → Option Geometry
geometry_in kind numbers = if has_geometry kind numbers (guessed kind numbers) then Some (guessed kind numbers) else None

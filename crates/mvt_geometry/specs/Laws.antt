-- Laws of geometries and their integers, and of the geometry of numbers as a function.
use Rattle.std.specs.Prelude.{◌≡◌, ◌↔◌, ℕ, ◌*◌, ◌^◌, ◌<◌, ◌≤◌, unsigned_abs, List, Some, length, map}
use Rattle.std.specs.List.{flat_map, AllByRecursion}
use Rattle.mvt_document.specs.Wire.{minimal, spelling}
use Rattle.mvt_document.specs.Groups.{IsNumber}
use Rattle.mvt_geometry.specs.Shapes.{Geometry, Point, kind_number, IsGeometry}
use Rattle.mvt_geometry.specs.Integers.{integers, IsInRange, HasGeometry, encoded}
use Rattle.mvt_geometry.specs.Found.{geometry_in}

-- numbers have at most one geometry of a kind
abbrev pub OneGeometry : Type 0
OneGeometry = (kind : ℕ) (numbers : List ℕ) (g h : Geometry) → HasGeometry kind numbers g → HasGeometry kind numbers h → g ≡ h

-- the integers of a geometry have it, and no other of its kind
pub record HasItself (g : Geometry) : Type 0 where
  pub has : HasGeometry (kind_number g.kind) (integers g) g
  pub only : (h : Geometry) → HasGeometry (kind_number g.kind) (integers g) h → h ≡ g

-- the integers of a valid geometry in range have it, and no other of its kind
abbrev pub IntegersHaveTheirs : Type 0
IntegersHaveTheirs = (g : Geometry) → IsGeometry g → IsInRange g → HasItself g

-- the bytes of a geometry are the shortest spellings of its integers, each of which is a number of 32 bits
pub record PacksIntegers (g : Geometry) : Type 0 where
  pub spelled : encoded g ≡ flat_map spelling (map minimal (integers g))
  pub valid : AllByRecursion IsNumber (map minimal (integers g))
  pub short : AllByRecursion (λ integer. integer < 2 ^ 32) (integers g)

-- the bytes of a valid geometry in range are the shortest spellings of its integers, each of which is a number of 32
-- bits (guide, Packed Repeated Fields)
abbrev pub EncodedArePacked : Type 0
EncodedArePacked = (g : Geometry) → IsGeometry g → IsInRange g → PacksIntegers g

-- a geometry is found in the numbers of a kind exactly when they have it
abbrev pub GeometryIn : Type 0
GeometryIn = (kind : ℕ) (numbers : List ℕ) (g : Geometry) → (geometry_in kind numbers ≡ Some g) ↔ HasGeometry kind numbers g

-- both coordinates are at most this far from 0
pub record IsWithin (most : ℕ) (p : Point) : Type 0 where
  pub x : unsigned_abs p.x ≤ most
  pub y : unsigned_abs p.y ≤ most

-- no coordinate of a geometry in range is further from 0 than 2^31 times as many integers as the geometry has
-- (tiles 4.3.2)
abbrev pub IntegersReach : Type 0
IntegersReach = (g : Geometry) → IsInRange g → AllByRecursion (AllByRecursion (IsWithin (length (integers g) * 2 ^ 31))) g.parts

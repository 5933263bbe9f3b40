-- Geometries as points. A `Point` and a `Kind` are the program's: two whole numbers x and y; dots, lines or areas.
use Rattle.std.specs.Prelude.{◌≡◌, ℕ, ◌^◌, ◌≤◌, unsigned_abs, List, length}
use Rattle.std.specs.List.{AllByRecursion}
pub use Rattle.mvt_geometry.specs.declared.shapes.Point.{Point}
pub use Rattle.mvt_geometry.specs.declared.shapes.Kind.{Kind}
pub use Rattle.mvt_geometry.specs.declared.shapes.Kind.TheVariants.{Dots, Lines, Areas}

-- the number of a kind: 1 for dots (POINT), 2 for lines (LINESTRING), 3 for areas (POLYGON) (tiles 4.3.4)
abbrev pub kind_number : Kind → ℕ
kind_number Dots = 1
kind_number Lines = 2
kind_number Areas = 3

-- a kind, and parts, each a list of points: all dots together, or each line, or each ring (tiles 4.3.4)
pub record Geometry : Type 0 where
  pub kind : Kind
  pub parts : List (List Point)

-- there is one part of dots, and at least one line or ring (tiles 4.3.4)
abbrev pub IsPartCount : Kind → ℕ → Type 0
IsPartCount Dots count = count ≡ 1
IsPartCount kind count = 1 ≤ count

-- the least number of points in a part: 1 for dots, 2 for a line, 3 for a ring (tiles 4.3.4)
abbrev pub least_points : Kind → ℕ
least_points Dots = 1
least_points Lines = 2
least_points Areas = 3

-- both coordinates are from -2^62 to 2^62
pub record IsPlaced (p : Point) : Type 0 where
  pub x : unsigned_abs p.x ≤ 2 ^ 62
  pub y : unsigned_abs p.y ≤ 2 ^ 62

-- a part of this kind has enough points, and each of them is placed (tiles 4.3.4)
pub record IsPart (kind : Kind) (points : List Point) : Type 0 where
  pub enough : least_points kind ≤ length points
  pub placed : AllByRecursion IsPlaced points

-- a geometry has as many parts as its kind needs, and each is a part of the kind (tiles 4.3.4)
pub record IsGeometry (g : Geometry) : Type 0 where
  pub counted : IsPartCount g.kind (length g.parts)
  pub parts : AllByRecursion (IsPart g.kind) g.parts

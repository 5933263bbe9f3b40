-- The integers of a geometry, gone through one after the other.
use Rattle.std.specs.Prelude.{◌≡◌, ℕ, ◌-◌, ◌^◌, ◌≤◌, ◌<◌, ℤ, ◌-ℤ◌, unsigned_abs, List, [], ◌∷◌, ◌++◌, length}
use Rattle.std.specs.List.{AllByRecursion}
use Rattle.mvt_document.specs.Signed.{zigzag}
use Rattle.mvt_geometry.specs.Shapes.{Point, Kind, Dots, IsPlaced}
use Rattle.mvt_geometry.specs.Integers.{command, deltas, parameters, last_from, closing_of, path, paths, IsDelta, IsRepeated}

-- the parameter leads from one coordinate to another, which is placed, by a delta in range
pub record IsStep (from : ℤ) (number : ℕ) (to : ℤ) : Type 0 where
  pub spelled : number ≡ zigzag (to -ℤ from)
  pub short : IsDelta (to -ℤ from)
  pub placed : unsigned_abs to ≤ 2 ^ 62

-- two parameters lead from one point to another
pub record IsMove (from : Point) (x y : ℕ) (to : Point) : Type 0 where
  pub along : IsStep from.x x to.x
  pub down : IsStep from.y y to.y

-- the parameters lead from `from` through these points, which are placed, by deltas in range
pub record LeadsThrough (from : Point) (numbers : List ℕ) (points : List Point) : Type 0 where
  pub spelled : numbers ≡ parameters from points
  pub short : AllByRecursion IsDelta (deltas from points)
  pub placed : AllByRecursion IsPlaced points

-- points that begin with `first` and go on as the parameters lead
abbrev pub GoesOn : Point → List ℕ → List Point → Type 0
GoesOn first numbers [] = ⊥
GoesOn first numbers (point ∷ points) = (point ≡ first) × LeadsThrough first numbers points

-- the points are a part with a path from `from`: enough of them, all placed, deltas and count in range
pub record IsPath (least : ℕ) (from : Point) (points : List Point) : Type 0 where
  pub enough : least ≤ length points
  pub placed : AllByRecursion IsPlaced points
  pub short : AllByRecursion IsDelta (deltas from points)
  pub repeated : length points - 1 < 2 ^ 29

-- the numbers begin with the path of a part, and `rest` follows it
pub record BeginsWithPart (least : ℕ) (closing : List ℕ) (from : Point) (numbers : List ℕ) (points : List Point) (rest : List ℕ) : Type 0 where
  pub valid : IsPath least from points
  pub spelled : numbers ≡ path closing from points ++ rest

-- the parts have paths, each from where the one before it ended
abbrev pub ArePaths : ℕ → Point → List (List Point) → Type 0
ArePaths least from [] = Unit {0}
ArePaths least from (part ∷ parts) = IsPath least from part × ArePaths least (last_from from part) parts

-- the numbers are the paths of the parts, one after the other
pub record Goes (least : ℕ) (closing : List ℕ) (from : Point) (numbers : List ℕ) (parts : List (List Point)) : Type 0 where
  pub valid : ArePaths least from parts
  pub spelled : numbers ≡ paths closing from parts

-- the kind is drawn by paths: lines and areas
abbrev pub IsDrawn : Kind → Type 0
IsDrawn Dots = ⊥
IsDrawn kind = Unit {0}

-- ---- part after part, of any kind

-- the integers of one part, from this point
abbrev pub integers_of_part : Kind → Point → List Point → List ℕ
integers_of_part Dots from points = command 1 (length points) ∷ parameters from points
integers_of_part kind from points = path (closing_of kind) from points

-- the integers of parts, each from where the one before it ended
abbrev pub integers_from : Kind → Point → List (List Point) → List ℕ
integers_from kind from [] = []
integers_from kind from (part ∷ parts) = integers_of_part kind from part ++ integers_from kind (last_from from part) parts

-- the deltas of a part from `from`, and the count of its longest command, are in range
pub record IsPartInRange (kind : Kind) (from : Point) (points : List Point) : Type 0 where
  pub short : AllByRecursion IsDelta (deltas from points)
  pub repeated : IsRepeated kind points

-- each part is in range from where the one before it ended
abbrev pub AreInRange : Kind → Point → List (List Point) → Type 0
AreInRange kind from [] = Unit {0}
AreInRange kind from (part ∷ parts) = IsPartInRange kind from part × AreInRange kind (last_from from part) parts

-- The integers of a geometry, and their bytes.
use Rattle.std.specs.Prelude.{◌≡◌, ℕ, ◌+◌, ◌-◌, ◌*◌, ◌^◌, ◌<◌, ℤ, pos, ◌-ℤ◌, unsigned_abs, List, [], ◌∷◌, ◌++◌, length, map}
use Rattle.std.specs.List.{AllByRecursion, flat_map}
use Rattle.mvt_document.specs.Wire.{shortest}
use Rattle.mvt_document.specs.Signed.{zigzag}
use Rattle.mvt_geometry.specs.Shapes.{Point, Kind, Dots, Areas, kind_number, Geometry, IsGeometry}

-- ---- commands: MoveTo is 1, LineTo is 2, ClosePath is 7

-- a command integer: the id of the command, and 8 times how often it is carried out (tiles 4.3.1)
abbrev pub command : ℕ → ℕ → ℕ
command id count = id + 8 * count

-- ---- parameters

-- the point from which the first command goes: (0, 0) (tiles 4.3.3)
abbrev pub origin : Point
origin = record { x = pos 0; y = pos 0 }

-- the deltas from each point to the next, beginning at `from`: dx, dy, dx, dy and so on (tiles 4.3.2)
abbrev pub deltas : Point → List Point → List ℤ
deltas from [] = []
deltas from (to ∷ points) = (to.x -ℤ from.x) ∷ (to.y -ℤ from.y) ∷ deltas to points

-- the parameter integers of the points: their deltas in ZigZag (tiles 4.3.2)
abbrev pub parameters : Point → List Point → List ℕ
parameters from points = map zigzag (deltas from points)

-- ---- geometries

-- the last of the points, or `from` where there is none
abbrev pub last_from : Point → List Point → Point
last_from from [] = from
last_from from (to ∷ points) = last_from to points

-- the path of a part: MoveTo its first point, LineTo the others, and what closes it (tiles 4.3.3, 4.3.4)
abbrev pub path : List ℕ → Point → List Point → List ℕ
path closing from [] = []
path closing from (first ∷ points) = command 1 1 ∷ (parameters from (first ∷ []) ++ (command 2 (length points) ∷ (parameters first points ++ closing)))

-- the paths of parts, each from where the one before it ended: ClosePath does not move (tiles 4.3.3)
abbrev pub paths : List ℕ → Point → List (List Point) → List ℕ
paths closing from [] = []
paths closing from (part ∷ parts) = path closing from part ++ paths closing (last_from from part) parts

-- what closes the path of a part: a ClosePath after a ring, else nothing (tiles 4.3.4)
abbrev pub closing_of : Kind → List ℕ
closing_of Areas = command 7 1 ∷ []
closing_of kind = []

-- the points of all parts, one after the other
abbrev pub all_points : List (List Point) → List Point
all_points parts = flat_map (λ part. part) parts

-- the integers of parts of a kind: one MoveTo for all dots, or a path for each line or ring (tiles 4.3.4)
abbrev pub integers_of : Kind → List (List Point) → List ℕ
integers_of Dots parts = command 1 (length (all_points parts)) ∷ parameters origin (all_points parts)
integers_of kind parts = paths (closing_of kind) origin parts

-- the integers of a geometry (tiles 4.3.4)
abbrev pub integers : Geometry → List ℕ
integers g = integers_of g.kind g.parts

-- ---- what integers of 32 bits can say

-- a delta that a parameter can hold: from -(2^31 - 1) to 2^31 - 1 (tiles 4.3.2)
abbrev pub IsDelta : ℤ → Type 0
IsDelta delta = unsigned_abs delta < 2 ^ 31

-- how often the longest command of a part is carried out: MoveTo for dots, LineTo for the points after the first of a
-- line or ring (tiles 4.3.1)
abbrev pub repeats : Kind → List Point → ℕ
repeats Dots points = length points
repeats kind points = length points - 1

-- the longest command of a part is carried out fewer than 2^29 times (tiles 4.3.1)
abbrev pub IsRepeated : Kind → List Point → Type 0
IsRepeated kind points = repeats kind points < 2 ^ 29

-- all deltas, the first one from the origin, and all counts fit into their integers (tiles 4.3.1, 4.3.2)
pub record IsInRange (g : Geometry) : Type 0 where
  pub short : AllByRecursion IsDelta (deltas origin (all_points g.parts))
  pub repeated : AllByRecursion (IsRepeated g.kind) g.parts

-- the numbers are the integers of this geometry, which is valid, in range, and of the kind with this number; no kind
-- other than 1, 2 and 3 has a geometry (tiles 4.3)
pub record HasGeometry (kind : ℕ) (numbers : List ℕ) (g : Geometry) : Type 0 where
  pub of_kind : kind ≡ kind_number g.kind
  pub valid : IsGeometry g
  pub in_range : IsInRange g
  pub spelled : numbers ≡ integers g

-- ---- bytes

-- the shortest spellings of integers, one after the other (guide, Packed Repeated Fields)
abbrev pub packed : List ℕ → List ℕ
packed integers = flat_map shortest integers

-- the integers of a geometry, packed (guide, Packed Repeated Fields)
abbrev pub encoded : Geometry → List ℕ
encoded g = packed (integers g)

-- Names of points, in the order of the bytes of the names. A point is how many steps stand; 0 is the tile at the start.
use Rattle.std.specs.Prelude.{◌≡◌, ℕ, suc, ◌+◌, ◌≤◌, Bool, not, ◌&&◌, nat_le, List, ◌∷◌, ◌++◌, map, filter, length, take, drop, slice_get, Option, option_map, IsSomeAnd, Result, Ok, Err}
use Rattle.std.specs.List.Sorted.{IsStrictlySortedBy}
use Rattle.std.specs.Cmp.Lexicographic.{slice_cmp}
use Rattle.std.specs.declared.cmp.Ordering.{Ordering}
use Rattle.std.specs.Ordering.{nat_cmp, is_lt, is_eq, is_gt}

-- a name, and the point that it marks
pub record Mark : Type 0 where
  pub name : List ℕ
  pub point : ℕ

-- which of two names comes first, by their bytes
abbrev pub compared : List ℕ → List ℕ → Ordering
compared first second = slice_cmp nat_cmp first second

-- ---- how a mark compares with a name

-- the mark has this name
abbrev pub has_name : List ℕ → Mark → Bool
has_name name mark = is_eq (compared mark.name name)

-- the mark comes before this name
abbrev pub is_before : List ℕ → Mark → Bool
is_before name mark = is_lt (compared mark.name name)

-- the mark comes after this name
abbrev pub is_after : List ℕ → Mark → Bool
is_after name mark = is_gt (compared mark.name name)

-- each name comes before those after it, so no name occurs twice
abbrev pub InOrder : List Mark → Type 0
InOrder marks = IsStrictlySortedBy compared (map (λ mark. mark.name) marks)

-- ---- marks that are set, removed and looked up

-- the point that the name marks, or none
abbrev pub point_of : List ℕ → List Mark → Option ℕ
point_of name marks = option_map (λ mark. mark.point) (slice_get (filter (has_name name) marks) 0)

-- the marks, where the name marks this point and no other
abbrev pub bound : List ℕ → ℕ → List Mark → List Mark
bound name point marks = filter (is_before name) marks ++ record { name = name; point = point } ∷ filter (is_after name) marks

-- the marks, where the name marks nothing
abbrev pub unbound : List ℕ → List Mark → List Mark
unbound name marks = filter (λ mark. not (has_name name mark)) marks

-- the marks of the points from `low` to `high`, both included
abbrev pub between : ℕ → ℕ → List Mark → List Mark
between low high marks = filter (λ mark. nat_le low mark.point && nat_le mark.point high) marks

-- ---- marks counted from a floor

-- a mark whose point was counted from `floor`, counted from 0
abbrev pub counted_from : ℕ → Mark → Mark
counted_from floor mark = record mark { point = floor + mark.point }

-- ---- where a name is looked up

-- the position of the mark with the name, or, where there is none, the one where it belongs
abbrev pub IsPlaceOf : List ℕ → List Mark → Result ℕ ℕ → Type 0
IsPlaceOf name marks (Ok place) = (take place marks ≡ filter (is_before name) marks) × (drop (suc place) marks ≡ filter (is_after name) marks) × IsSomeAnd (slice_get marks place) (λ mark. mark.name ≡ name)
IsPlaceOf name marks (Err place) = (take place marks ≡ filter (is_before name) marks) × (drop place marks ≡ filter (is_after name) marks) × (place ≤ length marks)

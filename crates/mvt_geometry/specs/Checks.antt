-- Whether numbers have a geometry: each definition on the way to `HasGeometry`, as a truth value.
use Rattle.std.specs.Prelude.{ℕ, ◌^◌, ◌&&◌, ◌==◌, nat_le, nat_lt, Bool, ℤ, unsigned_abs, List, length}
use Rattle.std.specs.List.{list_all}
use Rattle.std.specs.Str.{bytes_eq}
use Rattle.mvt_geometry.specs.declared.shapes.Point.{Point}
use Rattle.mvt_geometry.specs.declared.shapes.Kind.{Kind}
use Rattle.mvt_geometry.specs.declared.shapes.Kind.TheVariants.{Dots}
use Rattle.mvt_geometry.specs.Shapes.{kind_number, Geometry, least_points}
use Rattle.mvt_geometry.specs.Integers.{origin, deltas, all_points, integers, repeats}

-- dots are one part; there is at least one line or ring
abbrev pub is_part_count : Kind → ℕ → Bool
is_part_count Dots count = count == 1
is_part_count kind count = nat_le 1 count

-- `IsPlaced` as a truth value
abbrev pub is_placed : Point → Bool
is_placed p = nat_le (unsigned_abs p.x) (2 ^ 62) && nat_le (unsigned_abs p.y) (2 ^ 62)

-- `IsPart` as a truth value (tiles 4.3.4)
abbrev pub is_part : Kind → List Point → Bool
is_part kind points = nat_le (least_points kind) (length points) && list_all is_placed points

-- `IsGeometry` as a truth value (tiles 4.3.4)
abbrev pub is_geometry : Geometry → Bool
is_geometry g = is_part_count g.kind (length g.parts) && list_all (is_part g.kind) g.parts

-- `IsDelta` as a truth value (tiles 4.3.2)
abbrev pub is_delta : ℤ → Bool
is_delta delta = nat_lt (unsigned_abs delta) (2 ^ 31)

-- `IsRepeated` as a truth value (tiles 4.3.1)
abbrev pub is_repeated : Kind → List Point → Bool
is_repeated kind points = nat_lt (repeats kind points) (2 ^ 29)

-- `IsInRange` as a truth value (tiles 4.3.1, 4.3.2)
abbrev pub is_in_range : Geometry → Bool
is_in_range g = list_all is_delta (deltas origin (all_points g.parts)) && list_all (is_repeated g.kind) g.parts

-- `HasGeometry` as a truth value (tiles 4.3)
unfoldable pub has_geometry : ℕ → List ℕ → Geometry → Bool
has_geometry kind numbers g = kind == kind_number g.kind && (is_geometry g && (is_in_range g && bytes_eq numbers (integers g)))

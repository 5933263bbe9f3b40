-- The integers of a geometry in range are numbers of 32 bits, and its bytes are their spellings.
use Rattle.std.proofs.Common.{ℕ, ◌+◌, ◌*◌, ◌^◌, ◌<◌, ℤ, pos, negsuc, List, [], ◌∷◌, length, map, sym, subst, arith}
use Rattle.std.specs.List.{AllByRecursion}
use Rattle.std.proofs.lemmas.List.Folds.{flat_map-map}
use Rattle.mvt_document.specs.Wire.{spelling, minimal}
use Rattle.mvt_document.specs.Groups.{IsNumber}
use Rattle.mvt_document.proofs.EachItem.{all_joined}
use Rattle.mvt_document.proofs.Spelling.{minimal_spelling}
use Rattle.mvt_document.specs.Signed.{zigzag}
use Rattle.mvt_geometry.specs.Shapes.{Point, Kind, Dots, Lines, Areas, Geometry, IsGeometry}
use Rattle.mvt_geometry.specs.Integers.{deltas, parameters, last_from, path, origin, integers, IsDelta, IsInRange}
use Rattle.mvt_geometry.specs.Walks.{integers_of_part, integers_from, IsPartInRange, AreInRange}
use Rattle.mvt_geometry.specs.Laws.{PacksIntegers}
use Rattle.mvt_geometry.proofs.Packs.{integers-from, parts_in_range}

abbrev pub IsSmall : ℕ → Type 0
IsSmall integer = integer < 2 ^ 32

pub small_delta : (delta : ℤ) → IsDelta delta → IsSmall (zigzag delta)
small_delta (pos n) h = omega arith
small_delta (negsuc n) h = omega arith

small_parameters : (from : Point) (points : List Point) → AllByRecursion IsDelta (deltas from points) → AllByRecursion IsSmall (parameters from points)
small_parameters from [] h = tt
small_parameters from (p ∷ points) h = (small_delta _ h.0, (small_delta _ h.1.0, small_parameters p points h.1.1))

small_path : (closing : List ℕ) (from : Point) (points : List Point) → AllByRecursion IsSmall closing → IsPartInRange Lines from points → AllByRecursion IsSmall (path closing from points)
small_path closing from [] small r = tt
small_path closing from (first ∷ points) small r =
    let few = r.repeated in
    let count : IsSmall (2 + 8 * length points) = omega arith in
    (omega arith, (small_delta _ r.short.0, (small_delta _ r.short.1.0, (count, all_joined IsSmall (parameters first points) closing (small_parameters first points r.short.1.1) small))))

small_part : (kind : Kind) (from : Point) (points : List Point) → IsPartInRange kind from points → AllByRecursion IsSmall (integers_of_part kind from points)
small_part Dots from points r = let few = r.repeated in (omega arith, small_parameters from points r.short)
small_part Lines from points r = small_path [] from points tt r
small_part Areas from points r = small_path (15 ∷ []) from points (omega arith, tt) (record { short = r.short; repeated = r.repeated })

small_integers : (kind : Kind) (from : Point) (parts : List (List Point)) → AreInRange kind from parts → AllByRecursion IsSmall (integers_from kind from parts)
small_integers kind from [] h = tt
small_integers kind from (part ∷ parts) h =
    all_joined IsSmall (integers_of_part kind from part) (integers_from kind (last_from from part) parts) (small_part kind from part h.0) (small_integers kind (last_from from part) parts h.1)

all_numbers : (values : List ℕ) → AllByRecursion IsSmall values → AllByRecursion IsNumber (map minimal values)
all_numbers [] h = tt
all_numbers (value ∷ values) h = (let small = h.0 in minimal_spelling value (omega arith), all_numbers values h.1)

pub packs_integers : (g : Geometry) → IsGeometry g → IsInRange g → PacksIntegers g
packs_integers g valid range =
    let small = subst (λ (s : List ℕ). AllByRecursion IsSmall s) (integers-from g.kind g.parts valid.counted) (small_integers g.kind origin g.parts (parts_in_range g.kind g.parts range)) in
    record {
      spelled = sym (flat_map-map spelling minimal (integers g));
      valid = all_numbers (integers g) small;
      short = small;
    }

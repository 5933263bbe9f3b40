-- The integers of a feature's geometry.
use Rattle.std.proofs.Common.{◌≡◌, ℕ, ◌-◌, ◌^◌, ◌<◌, ℤ, pos, negsuc, true, List, [], ◌∷◌, ◌++◌, length, Some, None, refl, ap, arith}
use Rattle.std.specs.List.{list_all, AllByRecursion}
use Rattle.std.proofs.lemmas.Bool.Decides.{nat_tests}
use Rattle.std.proofs.lemmas.List.{append-nil}
use Rattle.mvt_document.specs.Signed.{zigzag}
use Rattle.mvt_document.specs.Plain.{Feature}
use Rattle.mvt_messages.specs.Numbers.{numbers}
use Rattle.mvt_geometry.specs.declared.shapes.Point.{Point}
use Rattle.mvt_geometry.specs.declared.shapes.Kind.{Kind}
use Rattle.mvt_geometry.specs.declared.shapes.Kind.TheVariants.{Dots, Lines, Areas}
use Rattle.mvt_geometry.specs.Shapes.{Geometry, IsPartCount}
use Rattle.mvt_geometry.specs.Integers.{command, deltas, parameters, last_from, path, paths, all_points, origin, integers_of, IsDelta, IsRepeated, HasGeometry}
use Rattle.mvt_geometry.proofs.Parts.{deltas_apart}
use Rattle.mvt_view.specs.FeatureGeometry.{HasFeatureGeometry, is_short, integers_in}

abbrev IsShort : ℕ → Type 0
IsShort integer = integer < 2 ^ 32

abbrev AreShort : List ℕ → Type 0
AreShort list = AllByRecursion IsShort list

-- ---- a geometry's integers have 32 bits

both_short : (xs ys : List ℕ) → AreShort xs → AreShort ys → AreShort (xs ++ ys)
both_short [] ys h k = k
both_short (x ∷ xs) ys h k = (h.0, both_short xs ys h.1 k)

delta_is_short : (delta : ℤ) → IsDelta delta → IsShort (zigzag delta)
delta_is_short (pos n) h = omega arith
delta_is_short (negsuc n) h = omega arith

parameters_are_short : (from : Point) (points : List Point) → AllByRecursion IsDelta (deltas from points) → AreShort (parameters from points)
parameters_are_short from [] h = tt
parameters_are_short from (to ∷ points) h = (delta_is_short _ h.0, (delta_is_short _ h.1.0, parameters_are_short to points h.1.1))

path_is_short : (closing : List ℕ) (from : Point) (points : List Point) → AreShort closing → AllByRecursion IsDelta (deltas from points) → length points - 1 < 2 ^ 29 → AreShort (path closing from points)
path_is_short closing from [] close h few = tt
path_is_short closing from (first ∷ points) close h few =
    (omega arith, (delta_is_short _ h.0, (delta_is_short _ h.1.0, (omega arith, both_short (parameters first points) closing (parameters_are_short first points h.1.1) close))))

paths_are_short : (closing : List ℕ) (from : Point) (parts : List (List Point)) → AreShort closing → AllByRecursion IsDelta (deltas from (all_points parts)) → AllByRecursion (λ part. length part - 1 < 2 ^ 29) parts → AreShort (paths closing from parts)
paths_are_short closing from [] close h few = tt
paths_are_short closing from (part ∷ parts) close h few =
    let apart = deltas_apart from part (all_points parts) h in
    both_short (path closing from part) (paths closing (last_from from part) parts) (path_is_short closing from part close apart.0 few.0) (paths_are_short closing (last_from from part) parts close apart.1 few.1)

dots_are_short : (parts : List (List Point)) → length parts ≡ 1 → AllByRecursion IsDelta (deltas origin (all_points parts)) → AllByRecursion (λ part. length part < 2 ^ 29) parts → AreShort (integers_of Dots parts)
dots_are_short [] one h few = absurd (omega arith)
dots_are_short (part ∷ next ∷ more) one h few = absurd (omega arith)
dots_are_short (part ∷ []) one h few =
    let same = ap (λ (points : List Point). length points) (append-nil part) in
    (omega (arith, same, few.0), parameters_are_short origin (all_points (part ∷ [])) h)

of_kind_are_short : (kind : Kind) (parts : List (List Point)) → IsPartCount kind (length parts) → AllByRecursion IsDelta (deltas origin (all_points parts)) → AllByRecursion (IsRepeated kind) parts → AreShort (integers_of kind parts)
of_kind_are_short Dots parts one short few = dots_are_short parts one short few
of_kind_are_short Lines parts some short few = paths_are_short [] origin parts tt short few
of_kind_are_short Areas parts some short few = paths_are_short (command 7 1 ∷ []) origin parts (omega arith, tt) short few

integers_are_short : (kind : ℕ) (list : List ℕ) (geometry : Geometry) → HasGeometry kind list geometry → AreShort list
integers_are_short kind list geometry has = rw has.spelled (of_kind_are_short geometry.kind geometry.parts has.valid.counted has.in_range.short has.in_range.repeated)

-- ---- and those of a feature

all_short : (list : List ℕ) → AreShort list → list_all is_short list ≡ true
all_short [] short = refl
all_short (n ∷ list) short =
    let first : is_short n ≡ true = grind (arith, nat_tests, short.0) in
    rw (first, all_short list short.1) refl

-- where not all numbers are integers of 32 bits there is no geometry
pub no_geometry : (feature : Feature) (geometry : Geometry) → integers_in (numbers 4 feature.fields) ≡ None → HasFeatureGeometry feature geometry → ⊥
no_geometry feature geometry none h =
    let short = all_short h.integers (integers_are_short _ h.integers geometry h.has) in
    let found : integers_in (numbers 4 feature.fields) ≡ Some h.integers = rw (h.read, short) refl in
    cc

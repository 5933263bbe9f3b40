-- Each truth value says what its definition says.
use Rattle.std.proofs.Common.{◌≡◌, ℕ, ◌^◌, ◌≤◌, Bool, leb, List, [], ◌∷◌, length, refl}
use Rattle.std.specs.Prelude.{unsigned_abs, Decides}
use Rattle.std.specs.List.{list_all, AllByRecursion}
use Rattle.std.proofs.lemmas.Bool.{leb-true, le-leb}
use Rattle.std.proofs.lemmas.Bool.Decides.{Decides-eqb, Decides-ltb, Decides-and, Decides-like}
use Rattle.std.proofs.lemmas.Slice.Eq.{bytes_eq-Decides}
use Rattle.mvt_geometry.specs.declared.shapes.Point.{Point}
use Rattle.mvt_geometry.specs.declared.shapes.Kind.{Kind}
use Rattle.mvt_geometry.specs.declared.shapes.Kind.TheVariants.{Dots, Lines, Areas}
use Rattle.mvt_geometry.specs.Shapes.{kind_number, Geometry, IsPartCount, least_points, IsPlaced, IsPart, IsGeometry}
use Rattle.mvt_geometry.specs.Integers.{origin, deltas, all_points, integers, IsDelta, repeats, IsRepeated, IsInRange, HasGeometry}
use Rattle.mvt_geometry.specs.Checks.{is_part_count, is_placed, is_part, is_geometry, is_delta, is_repeated, is_in_range, has_geometry}

leb-Decides : (a b : ℕ) → Decides (leb a b) (a ≤ b)
leb-Decides a b = (leb-true a b, le-leb a b)

each : {A : Type 0} (test : A → Bool) (P : A → Type 0) → ((x : A) → Decides (test x) (P x)) → (list : List A) → Decides (list_all test list) (AllByRecursion P list)
each test P one [] = (λ _. tt, λ _. refl)
each test P one (x ∷ list) = Decides-and (test x) (list_all test list) (one x) (each test P one list)

pub counted-Decides : (kind : Kind) (count : ℕ) → Decides (is_part_count kind count) (IsPartCount kind count)
counted-Decides Dots count = Decides-eqb count 1
counted-Decides Lines count = leb-Decides 1 count
counted-Decides Areas count = leb-Decides 1 count

placed : (p : Point) → Decides (is_placed p) (IsPlaced p)
placed p =
    Decides-like (is_placed p) (λ (h : (unsigned_abs p.x ≤ 2 ^ 62) × (unsigned_abs p.y ≤ 2 ^ 62)). record { x = h.0; y = h.1 }) (λ h. (h.x, h.y))
    (Decides-and _ _ (leb-Decides (unsigned_abs p.x) (2 ^ 62)) (leb-Decides (unsigned_abs p.y) (2 ^ 62)))

part : (kind : Kind) (points : List Point) → Decides (is_part kind points) (IsPart kind points)
part kind points =
    Decides-like (is_part kind points) (λ (h : (least_points kind ≤ length points) × AllByRecursion IsPlaced points). record { enough = h.0; placed = h.1 }) (λ h. (h.enough, h.placed))
    (Decides-and _ _ (leb-Decides (least_points kind) (length points)) (each is_placed IsPlaced placed points))

geometry : (g : Geometry) → Decides (is_geometry g) (IsGeometry g)
geometry g =
    Decides-like (is_geometry g) (λ (h : IsPartCount g.kind (length g.parts) × AllByRecursion (IsPart g.kind) g.parts). record { counted = h.0; parts = h.1 }) (λ h. (h.counted, h.parts))
    (Decides-and _ _ (counted-Decides g.kind (length g.parts)) (each (is_part g.kind) (IsPart g.kind) (part g.kind) g.parts))

pub in_range-Decides : (g : Geometry) → Decides (is_in_range g) (IsInRange g)
in_range-Decides g =
    Decides-like (is_in_range g) (λ (h : AllByRecursion IsDelta (deltas origin (all_points g.parts)) × AllByRecursion (IsRepeated g.kind) g.parts). record { short = h.0; repeated = h.1 }) (λ h. (h.short, h.repeated))
    (Decides-and _ _ (each is_delta IsDelta (λ delta. Decides-ltb (unsigned_abs delta) (2 ^ 31)) (deltas origin (all_points g.parts))) (each (is_repeated g.kind) (IsRepeated g.kind) (λ points. Decides-ltb (repeats g.kind points) (2 ^ 29)) g.parts))

pub has_geometry-Decides : (kind : ℕ) (numbers : List ℕ) (g : Geometry) → Decides (has_geometry kind numbers g) (HasGeometry kind numbers g)
unfolding has_geometry
has_geometry-Decides kind numbers g =
    Decides-like (has_geometry kind numbers g)
    (λ (h : (kind ≡ kind_number g.kind) × (IsGeometry g × (IsInRange g × (numbers ≡ integers g)))). record { of_kind = h.0; valid = h.1.0; in_range = h.1.1.0; spelled = h.1.1.1 })
    (λ h. (h.of_kind, (h.valid, (h.in_range, h.spelled))))
    (Decides-and _ _ (Decides-eqb kind (kind_number g.kind)) (Decides-and _ _ (geometry g) (Decides-and _ _ (in_range-Decides g) (bytes_eq-Decides numbers (integers g)))))

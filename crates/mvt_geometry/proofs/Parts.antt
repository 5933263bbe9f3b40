-- Paths one after the other: the numbers say where each ends, and which geometry they are of.
use Rattle.std.proofs.Common.{◌≡◌, ℕ, ◌-◌, ◌^◌, ◌<◌, ◌≤◌, List, [], ◌∷◌, ◌++◌, length, refl, sym, ap, ◌∙◌, subst, arith, append_assoc}
use Rattle.std.specs.List.{AllByRecursion}
use Rattle.std.proofs.lemmas.List.{append-nil, length-append}
use Rattle.mvt_geometry.specs.Shapes.{Point, Kind, Dots, Lines, Areas, kind_number, least_points, Geometry, IsPlaced, IsPart, IsGeometry}
use Rattle.mvt_geometry.specs.Integers.{deltas, last_from, path, paths, closing_of, all_points, origin, integers_of, IsDelta, IsInRange, HasGeometry}
use Rattle.mvt_geometry.specs.Walks.{BeginsWithPart, ArePaths, Goes, IsDrawn}
use Rattle.mvt_geometry.proofs.Fronts.{begins_once, last_placed}

-- ---- one path more, and one less

pub goes_none : (least : ℕ) (closing : List ℕ) (from : Point) → Goes least closing from [] []
goes_none least closing from = record { valid = tt; spelled = refl }

pub goes_more : (least : ℕ) (closing : List ℕ) (from : Point) (numbers : List ℕ) (part : List Point) (rest : List ℕ) (more : List (List Point)) → BeginsWithPart least closing from numbers part rest → Goes least closing (last_from from part) rest more → Goes least closing from numbers (part ∷ more)
goes_more least closing from numbers part rest more b g = record {
  valid = (b.valid, g.valid);
  spelled = b.spelled ∙ ap (λ (r : List ℕ). path closing from part ++ r) g.spelled;
}

-- the first of the parts, and the numbers after its path
pub record First (least : ℕ) (closing : List ℕ) (from : Point) (numbers : List ℕ) (parts : List (List Point)) : Type 0 where
  pub part : List Point
  pub more : List (List Point)
  pub rest : List ℕ
  pub is : parts ≡ part ∷ more
  pub begins : BeginsWithPart least closing from numbers part rest
  pub goes : Goes least closing (last_from from part) rest more

pub goes_less : (least : ℕ) (closing : List ℕ) (from : Point) (numbers : List ℕ) (parts : List (List Point)) → 1 ≤ length numbers → Goes least closing from numbers parts → First least closing from numbers parts
goes_less least closing from numbers [] some g = absurd (omega (arith, ap length g.spelled))
goes_less least closing from numbers (part ∷ more) some g = record {
  part = part;
  more = more;
  rest = paths closing (last_from from part) more;
  is = refl;
  begins = record { valid = g.valid.0; spelled = g.spelled };
  goes = record { valid = g.valid.1; spelled = refl };
}

pub path_some : (closing : List ℕ) (from : Point) (points : List Point) → 1 ≤ length points → 1 ≤ length (path closing from points)
path_some closing from [] some = absurd (omega arith)
path_some closing from (p ∷ points) some = omega arith

pub begins_some : (least : ℕ) (closing : List ℕ) (from : Point) (numbers : List ℕ) (points : List Point) (rest : List ℕ) → 1 ≤ least → BeginsWithPart least closing from numbers points rest → 1 ≤ length numbers
begins_some least closing from numbers points rest some b =
    omega (arith, ap length b.spelled, length-append {A = ℕ}, path_some closing from points (omega (arith, b.valid.enough)))

-- ---- parts that have been read so far: what is left goes on just as the whole does

pub record PartsRead (least : ℕ) (closing : List ℕ) (start : Point) (all : List ℕ) (from : Point) (rest : List ℕ) (read : List (List Point)) : Type 0 where
  pub placed : IsPlaced from
  pub goes_on : (more : List (List Point)) → Goes least closing from rest more → Goes least closing start all (read ++ more)
  pub only : (parts : List (List Point)) → Goes least closing start all parts → (more : List (List Point)) × (parts ≡ read ++ more) × Goes least closing from rest more

pub parts_more : (least : ℕ) (closing : List ℕ) (start : Point) (all : List ℕ) (from : Point) (rest : List ℕ) (read : List (List Point)) (part : List Point) (following : List ℕ) → 1 ≤ least → BeginsWithPart least closing from rest part following → PartsRead least closing start all from rest read → PartsRead least closing start all (last_from from part) following (read ++ part ∷ [])
parts_more least closing start all from rest read part following some b r = record {
  placed = last_placed from part r.placed b.valid.placed;
  goes_on = λ more g.
      subst (λ (parts : List (List Point)). Goes least closing start all parts) (sym (append_assoc read (part ∷ []) more)) (r.goes_on (part ∷ more) (goes_more least closing from rest part following more b g));
  only = λ parts g.
      let left = r.only parts g in
      let next = goes_less least closing from rest left.0 (begins_some least closing from rest part following some b) left.2 in
      let one = begins_once least closing from rest next.part part next.rest following some next.begins b in
      let there : Goes least closing (last_from from part) next.rest next.more = subst (λ (p : List Point). Goes least closing (last_from from p) next.rest next.more) one.0 next.goes in
      (next.more, left.1 ∙ ap (λ (more : List (List Point)). read ++ more) next.is ∙ ap (λ (p : List Point). read ++ (p ∷ next.more)) one.0 ∙ sym (append_assoc read (part ∷ []) next.more), subst (λ (s : List ℕ). Goes least closing (last_from from part) s next.more) one.1 there);
}

pub parts_no_more : (least : ℕ) (closing : List ℕ) (start : Point) (all : List ℕ) (from : Point) (rest : List ℕ) (read : List (List Point)) → 1 ≤ length rest → PartsRead least closing start all from rest read → ((points : List Point) (following : List ℕ) → BeginsWithPart least closing from rest points following → ⊥) → (parts : List (List Point)) → Goes least closing start all parts → ⊥
parts_no_more least closing start all from rest read some r none parts g =
    let left = r.only parts g in
    let next = goes_less least closing from rest left.0 some left.2 in
    none next.part next.rest next.begins

pub parts_end : (least : ℕ) (closing : List ℕ) (start : Point) (all : List ℕ) (from : Point) (read : List (List Point)) → PartsRead least closing start all from [] read → Goes least closing start all read
parts_end least closing start all from read r =
    subst (λ (parts : List (List Point)). Goes least closing start all parts) (append-nil read) (r.goes_on [] (goes_none least closing from))

-- ---- paths and geometries

pub deltas_apart : (from : Point) (a b : List Point) → AllByRecursion IsDelta (deltas from (a ++ b)) → AllByRecursion IsDelta (deltas from a) × AllByRecursion IsDelta (deltas (last_from from a) b)
deltas_apart from [] b all = (tt, all)
deltas_apart from (p ∷ a) b all =
    let others = deltas_apart p a b all.1.1 in ((all.0, (all.1.0, others.0)), others.1)

pub deltas_together : (from : Point) (a b : List Point) → AllByRecursion IsDelta (deltas from a) → AllByRecursion IsDelta (deltas (last_from from a) b) → AllByRecursion IsDelta (deltas from (a ++ b))
deltas_together from [] b first second = second
deltas_together from (p ∷ a) b first second = (first.0, (first.1.0, deltas_together p a b first.1.1 second))

abbrev pub IsShortPart : List Point → Type 0
IsShortPart points = length points - 1 < 2 ^ 29

pub are_parts : (kind : Kind) (from : Point) (parts : List (List Point)) → ArePaths (least_points kind) from parts → AllByRecursion (IsPart kind) parts
are_parts kind from [] all = tt
are_parts kind from (part ∷ parts) all = (record { enough = all.0.enough; placed = all.0.placed }, are_parts kind (last_from from part) parts all.1)

pub are_short : (least : ℕ) (from : Point) (parts : List (List Point)) → ArePaths least from parts → AllByRecursion IsDelta (deltas from (all_points parts))
are_short least from [] all = tt
are_short least from (part ∷ parts) all = deltas_together from part (all_points parts) all.0.short (are_short least (last_from from part) parts all.1)

pub are_repeated : (least : ℕ) (from : Point) (parts : List (List Point)) → ArePaths least from parts → AllByRecursion IsShortPart parts
are_repeated least from [] all = tt
are_repeated least from (part ∷ parts) all = (all.0.repeated, are_repeated least (last_from from part) parts all.1)

pub are_paths : (kind : Kind) (from : Point) (parts : List (List Point)) → AllByRecursion (IsPart kind) parts → AllByRecursion IsDelta (deltas from (all_points parts)) → AllByRecursion IsShortPart parts → ArePaths (least_points kind) from parts
are_paths kind from [] parts short repeated = tt
are_paths kind from (part ∷ more) parts short repeated =
    let apart = deltas_apart from part (all_points more) short in
    (record { enough = parts.0.enough; placed = parts.0.placed; short = apart.0; repeated = repeated.0 }, are_paths kind (last_from from part) more parts.1 apart.1 repeated.1)

abbrev pub with : Kind → List (List Point) → Geometry
with kind parts = record { kind = kind; parts = parts }

pub has_geometry : (kind : Kind) (numbers : List ℕ) (parts : List (List Point)) → IsDrawn kind → 1 ≤ length parts → Goes (least_points kind) (closing_of kind) origin numbers parts → HasGeometry (kind_number kind) numbers (record { kind = kind; parts = parts })
has_geometry Dots numbers parts drawn some g = absurd drawn
has_geometry Lines numbers parts drawn some g = record {
  of_kind = refl;
  valid = record { counted = some; parts = are_parts Lines origin parts g.valid };
  in_range = record { short = are_short 2 origin parts g.valid; repeated = are_repeated 2 origin parts g.valid };
  spelled = g.spelled;
}
has_geometry Areas numbers parts drawn some g = record {
  of_kind = refl;
  valid = record { counted = some; parts = are_parts Areas origin parts g.valid };
  in_range = record { short = are_short 3 origin parts g.valid; repeated = are_repeated 3 origin parts g.valid };
  spelled = g.spelled;
}

pub same_kind : (a b : Kind) → kind_number a ≡ kind_number b → a ≡ b
same_kind Dots Dots e = refl
same_kind Dots Lines e = absurd (omega arith)
same_kind Dots Areas e = absurd (omega arith)
same_kind Lines Dots e = absurd (omega arith)
same_kind Lines Lines e = refl
same_kind Lines Areas e = absurd (omega arith)
same_kind Areas Dots e = absurd (omega arith)
same_kind Areas Lines e = absurd (omega arith)
same_kind Areas Areas e = refl

goes_at : (kind : Kind) (numbers : List ℕ) (parts : List (List Point)) → IsDrawn kind → IsGeometry (with kind parts) → IsInRange (with kind parts) → numbers ≡ integers_of kind parts → Goes (least_points kind) (closing_of kind) origin numbers parts
goes_at Dots numbers parts drawn valid range e = absurd drawn
goes_at Lines numbers parts drawn valid range e = record { valid = are_paths Lines origin parts valid.parts range.short range.repeated; spelled = e }
goes_at Areas numbers parts drawn valid range e = record { valid = are_paths Areas origin parts valid.parts range.short range.repeated; spelled = e }

pub geometry_goes : (kind : Kind) (numbers : List ℕ) (g : Geometry) → IsDrawn kind → HasGeometry (kind_number kind) numbers g → Goes (least_points kind) (closing_of kind) origin numbers g.parts
geometry_goes kind numbers g drawn h =
    let same : kind ≡ g.kind = same_kind kind g.kind h.of_kind in
    let drawn' : IsDrawn g.kind = subst (λ (k : Kind). IsDrawn k) same drawn in
    let goes = goes_at g.kind numbers g.parts drawn' h.valid h.in_range h.spelled in
    subst (λ (k : Kind). Goes (least_points k) (closing_of k) origin numbers g.parts) (sym same) goes

-- a geometry of lines or of areas has numbers
pub numbers_some : (kind : Kind) (numbers : List ℕ) (g : Geometry) → IsDrawn kind → HasGeometry (kind_number kind) numbers g → 1 ≤ length numbers
numbers_some kind numbers g drawn h = some_of g.kind g.parts (subst (λ (k : Kind). IsDrawn k) (same_kind kind g.kind h.of_kind) drawn) h.valid h.spelled
  where
    some_paths : (least : ℕ) (closing : List ℕ) (parts : List (List Point)) (numbers : List ℕ) → 1 ≤ length parts → (kind : Kind) → AllByRecursion (IsPart kind) parts → 1 ≤ least_points kind → numbers ≡ paths closing origin parts → 1 ≤ length numbers
    some_paths least closing [] numbers some kind all enough e = absurd (omega arith)
    some_paths least closing (part ∷ parts) numbers some kind all enough e =
        omega (arith, ap length e, length-append {A = ℕ}, path_some closing origin part (omega (arith, all.0.enough)))

    some_of : (kind : Kind) (parts : List (List Point)) → IsDrawn kind → IsGeometry (with kind parts) → numbers ≡ integers_of kind parts → 1 ≤ length numbers
    some_of Dots parts drawn valid e = absurd drawn
    some_of Lines parts drawn valid e = some_paths 2 [] parts numbers valid.counted Lines valid.parts (omega arith) e
    some_of Areas parts drawn valid e = some_paths 3 (15 ∷ []) parts numbers valid.counted Areas valid.parts (omega arith) e

pub goes_some : (least : ℕ) (closing : List ℕ) (from : Point) (numbers : List ℕ) (parts : List (List Point)) → 1 ≤ length numbers → Goes least closing from numbers parts → 1 ≤ length parts
goes_some least closing from numbers [] some g = absurd (omega (arith, ap length g.spelled))
goes_some least closing from numbers (part ∷ parts) some g = omega arith

pub least_some : (kind : Kind) → 1 ≤ least_points kind
least_some Dots = omega arith
least_some Lines = omega arith
least_some Areas = omega arith

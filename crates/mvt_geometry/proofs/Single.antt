-- The numbers of dots.
use Rattle.std.proofs.Common.{◌≡◌, ℕ, ◌+◌, ◌*◌, ◌^◌, ◌<◌, ◌≤◌, suc, List, [], ◌∷◌, ◌++◌, length, drop, get_or, refl, sym, ap, ◌∙◌, subst, arith}
use Rattle.std.specs.List.{AllByRecursion}
use Rattle.std.proofs.lemmas.List.{append-nil}
use Rattle.mvt_geometry.specs.Shapes.{Point, Kind, Dots, Geometry, IsGeometry}
use Rattle.mvt_geometry.specs.Integers.{deltas, parameters, origin, integers_of, IsDelta, IsInRange, HasGeometry}
use Rattle.mvt_geometry.specs.Walks.{IsMove, LeadsThrough, GoesOn}
use Rattle.mvt_geometry.proofs.Fronts.{length-parameters}
use Rattle.mvt_geometry.proofs.Parts.{same_kind, with}

-- numbers of dots: the first of them, and the others
pub record AreDots (numbers : List ℕ) (parts : List (List Point)) : Type 0 where
  pub first : Point
  pub others : List Point
  pub is : parts ≡ (first ∷ others) ∷ []
  pub spelled : numbers ≡ (1 + 8 * suc (length others)) ∷ parameters origin (first ∷ others)
  pub leads : LeadsThrough origin (parameters origin (first ∷ others)) (first ∷ others)

are_dots : (numbers : List ℕ) (parts : List (List Point)) → IsGeometry (with Dots parts) → IsInRange (with Dots parts) → numbers ≡ integers_of Dots parts → AreDots numbers parts
are_dots numbers [] valid range e = absurd (omega (arith, valid.counted))
are_dots numbers ([] ∷ []) valid range e = absurd (omega (arith, valid.parts.0.enough))
are_dots numbers (part ∷ next ∷ more) valid range e = absurd (omega (arith, valid.counted))
are_dots numbers ((first ∷ others) ∷ []) valid range e =
    let same : first ∷ (others ++ []) ≡ first ∷ others = ap (λ (s : List Point). first ∷ s) (append-nil others) in
    record {
      first = first;
      others = others;
      is = refl;
      spelled = e ∙ ap (λ (s : List Point). (1 + 8 * length s) ∷ parameters origin s) same;
      leads = record {
        spelled = refl;
        short = subst (λ (s : List Point). AllByRecursion IsDelta (deltas origin s)) same range.short;
        placed = valid.parts.0.placed;
      };
    }

pub dots_of : (numbers : List ℕ) (g : Geometry) → HasGeometry 1 numbers g → AreDots numbers g.parts
dots_of numbers g h =
    let same : g.kind ≡ Dots = same_kind g.kind Dots (sym h.of_kind) in
    let valid : IsGeometry (with Dots g.parts) = subst (λ (k : Kind). IsGeometry (with k g.parts)) same h.valid in
    let range : IsInRange (with Dots g.parts) = subst (λ (k : Kind). IsInRange (with k g.parts)) same h.in_range in
    are_dots numbers g.parts valid range (h.spelled ∙ ap (λ (k : Kind). integers_of k g.parts) same)

pub three_at_least : (numbers : List ℕ) (g : Geometry) → HasGeometry 1 numbers g → 3 ≤ length numbers
three_at_least numbers g h = let d = dots_of numbers g h in omega (arith, ap length d.spelled)

pub first_three : (s : List ℕ) → 3 ≤ length s → s ≡ get_or s 0 0 ∷ get_or s 1 0 ∷ get_or s 2 0 ∷ drop 3 s
first_three [] h = absurd (omega arith)
first_three (a ∷ []) h = absurd (omega arith)
first_three (a ∷ b ∷ []) h = absurd (omega arith)
first_three (a ∷ b ∷ c ∷ s) h = refl

-- what the first three numbers of dots say
pub record DotsOpen (c x y : ℕ) (following : List ℕ) : Type 0 where
  pub first : Point
  pub others : List Point
  pub counts : c ≡ 1 + 8 * suc (length others)
  pub long : length following ≡ 2 * length others
  pub moves : IsMove origin x y first
  pub leads : LeadsThrough first following others

open_dots : (c x y : ℕ) (following : List ℕ) (parts : List (List Point)) → AreDots (c ∷ x ∷ y ∷ following) parts → DotsOpen c x y following
open_dots c x y following parts d =
    let e = d.spelled in
    let rest : following ≡ parameters d.first d.others = cc in
    record {
      first = d.first;
      others = d.others;
      counts = cc;
      long = ap length rest ∙ length-parameters d.first d.others;
      moves = record {
        along = record { spelled = cc; short = d.leads.short.0; placed = d.leads.placed.0.x };
        down = record { spelled = cc; short = d.leads.short.1.0; placed = d.leads.placed.0.y };
      };
      leads = record { spelled = rest; short = d.leads.short.1.1; placed = d.leads.placed.1 };
    }

pub dots_open : (numbers : List ℕ) (g : Geometry) → HasGeometry 1 numbers g → DotsOpen (get_or numbers 0 0) (get_or numbers 1 0) (get_or numbers 2 0) (drop 3 numbers)
dots_open numbers g h =
    let front = first_three numbers (three_at_least numbers g h) in
    open_dots _ _ _ _ g.parts (subst (λ (s : List ℕ). AreDots s g.parts) front (dots_of numbers g h))

pub dots_have : (x y n : ℕ) (following : List ℕ) (first : Point) (points : List Point) → IsMove origin x y first → GoesOn first following points → 2 + length following ≡ 2 * n → n < 2 ^ 29 → HasGeometry 1 ((1 + 8 * n) ∷ x ∷ y ∷ following) (record { kind = Dots; parts = points ∷ [] })
dots_have x y n following first [] m g count few = absurd g
dots_have x y n following first (p ∷ points) m g count few =
    let l = subst (λ (q : Point). LeadsThrough q following points) (sym g.0) g.1 in
    let move = subst (λ (q : Point). IsMove origin x y q) (sym g.0) m in
    let along = move.along.spelled in
    let down = move.down.spelled in
    let rest = l.spelled in
    let counts : length points + 1 ≡ n = omega (arith, length-parameters p points, ap length l.spelled) in
    let same : p ∷ points ≡ p ∷ (points ++ []) = ap (λ (s : List Point). p ∷ s) (sym (append-nil points)) in
    let line : 1 + 8 * n ≡ 1 + 8 * suc (length points) = omega arith in
    let spelled : (1 + 8 * n) ∷ x ∷ y ∷ following ≡ (1 + 8 * suc (length points)) ∷ parameters origin (p ∷ points) = cc in
    let short : AllByRecursion IsDelta (deltas origin (p ∷ points)) = (move.along.short, (move.down.short, l.short)) in
    record {
      of_kind = refl;
      valid = record { counted = refl; parts = (record { enough = omega arith; placed = (record { x = move.along.placed; y = move.down.placed }, l.placed) }, tt) };
      in_range = record {
        short = subst (λ (s : List Point). AllByRecursion IsDelta (deltas origin s)) same short;
        repeated = (omega arith, tt);
      };
      spelled = spelled ∙ ap (λ (s : List Point). (1 + 8 * length s) ∷ parameters origin s) same;
    }

-- Parameters that lead from point to point: one after the other, and only to the same points.
use Rattle.std.proofs.Common.{◌≡◌, ℕ, ◌<◌, ◌≤◌, ℤ, ◌-ℤ◌, List, [], ◌∷◌, ◌++◌, length, drop, get_or, refl, sym, ap, ◌∙◌, subst, arith, append_assoc}
use Rattle.std.proofs.lemmas.Int.{ints}
use Rattle.std.proofs.lemmas.List.{append-nil}
use Rattle.mvt_document.specs.Signed.{zigzag}
use Rattle.mvt_document.proofs.Signed.{one_in_zigzag}
use Rattle.mvt_geometry.specs.Shapes.{Point, IsPlaced}
use Rattle.mvt_geometry.specs.Integers.{last_from}
use Rattle.mvt_geometry.specs.Walks.{IsStep, IsMove, LeadsThrough, GoesOn}

-- ---- one step leads to one point

same_sub : (a b f : ℤ) → a -ℤ f ≡ b -ℤ f → a ≡ b
same_sub a b f e = omega (arith, ints)

one_step : (from : ℤ) (number : ℕ) (a b : ℤ) → IsStep from number a → IsStep from number b → a ≡ b
one_step from number a b p q = same_sub a b from (one_in_zigzag (a -ℤ from) (b -ℤ from) (sym p.spelled ∙ q.spelled))

pub same_point : (p q : Point) → p.x ≡ q.x → p.y ≡ q.y → p ≡ q
same_point p q along down =
    let first : p ≡ record { x = q.x; y = p.y } = ap (λ (z : ℤ). let r : Point = record { x = z; y = p.y } in r) along in
    let second : record { x = q.x; y = p.y } ≡ q = ap (λ (z : ℤ). let r : Point = record { x = q.x; y = z } in r) down in
    first ∙ second

pub one_move : (from : Point) (x y : ℕ) (p q : Point) → IsMove from x y p → IsMove from x y q → p ≡ q
one_move from x y p q a b = same_point p q (one_step from.x x p.x q.x a.along b.along) (one_step from.y y p.y q.y a.down b.down)

pub same_way : (from p q : Point) → zigzag (p.x -ℤ from.x) ≡ zigzag (q.x -ℤ from.x) → zigzag (p.y -ℤ from.y) ≡ zigzag (q.y -ℤ from.y) → p ≡ q
same_way from p q along down =
    same_point p q (same_sub p.x q.x from.x (one_in_zigzag (p.x -ℤ from.x) (q.x -ℤ from.x) along)) (same_sub p.y q.y from.y (one_in_zigzag (p.y -ℤ from.y) (q.y -ℤ from.y) down))

-- ---- parameters that lead on

pub leads_none : (from : Point) → LeadsThrough from [] []
leads_none from = record { spelled = refl; short = tt; placed = tt }

pub leads_more : (from : Point) (x y : ℕ) (p : Point) (numbers : List ℕ) (points : List Point) → IsMove from x y p → LeadsThrough p numbers points → LeadsThrough from (x ∷ y ∷ numbers) (p ∷ points)
leads_more from x y p numbers points m l =
    let a = m.along.spelled in
    let b = m.down.spelled in
    let c = l.spelled in
    record {
      spelled = cc;
      short = (m.along.short, (m.down.short, l.short));
      placed = (record { x = m.along.placed; y = m.down.placed }, l.placed);
    }

pub leads_less : (from : Point) (x y : ℕ) (numbers : List ℕ) (points : List Point) → LeadsThrough from (x ∷ y ∷ numbers) points → (p : Point) × (more : List Point) × (points ≡ p ∷ more) × IsMove from x y p × LeadsThrough p numbers more
leads_less from x y numbers [] l = let e = l.spelled in absurd (cc)
leads_less from x y numbers (p ∷ more) l =
    let e = l.spelled in (
      p,
      more,
      refl,
      record {
        along = record { spelled = cc; short = l.short.0; placed = l.placed.0.x };
        down = record { spelled = cc; short = l.short.1.0; placed = l.placed.0.y };
      },
      record { spelled = cc; short = l.short.1.1; placed = l.placed.1 },
    )

leads_odd : (from : Point) (x : ℕ) (points : List Point) → LeadsThrough from (x ∷ []) points → ⊥
leads_odd from x [] l = let e = l.spelled in cc
leads_odd from x (p ∷ points) l = let e = l.spelled in cc

-- ---- points that have been read so far: what is left leads on just as the whole does

pub record ReadOn (first : Point) (all : List ℕ) (last : Point) (rest : List ℕ) (read : List Point) : Type 0 where
  pub placed : IsPlaced last
  pub ends : last ≡ last_from first read
  pub goes_on : (more : List Point) → LeadsThrough last rest more → GoesOn first all (read ++ more)
  pub only : (points : List Point) → GoesOn first all points → (more : List Point) × (points ≡ read ++ more) × LeadsThrough last rest more

pub last-push : (from : Point) (points : List Point) (p : Point) → last_from from (points ++ p ∷ []) ≡ p
last-push from [] p = refl
last-push from (q ∷ points) p = last-push q points p

pub read_more : (first : Point) (all : List ℕ) (last : Point) (x y : ℕ) (following : List ℕ) (read : List Point) (p : Point) → IsMove last x y p → ReadOn first all last (x ∷ y ∷ following) read → ReadOn first all p following (read ++ p ∷ [])
read_more first all last x y following read p m r = record {
  placed = record { x = m.along.placed; y = m.down.placed };
  ends = sym (last-push first read p);
  goes_on = λ more l.
      subst (λ (points : List Point). GoesOn first all points) (sym (append_assoc read (p ∷ []) more)) (r.goes_on (p ∷ more) (leads_more last x y p following more m l));
  only = λ points g.
      let left = r.only points g in
      let next = leads_less last x y following left.0 left.2 in
      let same : next.0 ≡ p = one_move last x y next.0 p next.3 m in
      (next.1, left.1 ∙ ap (λ (more : List Point). read ++ more) next.2 ∙ ap (λ (q : Point). read ++ (q ∷ next.1)) same ∙ sym (append_assoc read (p ∷ []) next.1), subst (λ (q : Point). LeadsThrough q following next.1) same next.4);
}

pub read_end : (first : Point) (all : List ℕ) (last : Point) (read : List Point) → ReadOn first all last [] read → GoesOn first all read
read_end first all last read r =
    subst (λ (points : List Point). GoesOn first all points) (append-nil read) (r.goes_on [] (leads_none last))

pub read_no_more : (first : Point) (all : List ℕ) (last : Point) (x y : ℕ) (following : List ℕ) (read : List Point) → ReadOn first all last (x ∷ y ∷ following) read → ((p : Point) → IsMove last x y p → ⊥) → (points : List Point) → GoesOn first all points → ⊥
read_no_more first all last x y following read r none points g =
    let left = r.only points g in
    let next = leads_less last x y following left.0 left.2 in
    none next.0 next.3

pub read_odd : (first : Point) (all : List ℕ) (last : Point) (rest : List ℕ) (read : List Point) → ReadOn first all last rest read → 1 ≤ length rest → length rest < 2 → (points : List Point) → GoesOn first all points → ⊥
read_odd first all last [] read r some few points g = absurd (omega arith)
read_odd first all last (x ∷ []) read r some few points g = let left = r.only points g in leads_odd last x left.0 left.2
read_odd first all last (x ∷ y ∷ rest) read r some few points g = absurd (omega arith)

-- there is a last point, wherever one comes from
pub same_last : (first from : Point) (numbers : List ℕ) (points : List Point) → GoesOn first numbers points → last_from first points ≡ last_from from points
same_last first from numbers [] g = absurd g
same_last first from numbers (point ∷ points) g = refl

-- ---- the first numbers of a list

pub first_two : (s : List ℕ) → 2 ≤ length s → s ≡ get_or s 0 0 ∷ get_or s 1 0 ∷ drop 2 s
first_two [] h = absurd (omega arith)
first_two (x ∷ []) h = absurd (omega arith)
first_two (x ∷ y ∷ s) h = refl

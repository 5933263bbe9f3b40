-- Integers that are put one after the other: what is put so far, and what is left, are the whole.
use Rattle.std.proofs.Common.{◌≡◌, ℕ, ◌≤◌, List, [], ◌∷◌, ◌++◌, length, drop, refl, sym, ap, subst, ◌∙◌, arith, append_assoc}
use Rattle.std.specs.List.{AllByRecursion}
use Rattle.std.proofs.lemmas.List.{append-nil, drop_all}
use Rattle.std.proofs.lemmas.List.Concat.{flat_map-append}
use Rattle.mvt_geometry.specs.Shapes.{Point, Kind, Dots, Lines, Areas, IsPartCount, IsPart}
use Rattle.mvt_document.specs.Wire.{shortest}
use Rattle.mvt_geometry.specs.Integers.{deltas, parameters, last_from, path, paths, closing_of, all_points, origin, integers_of, IsDelta, IsRepeated, IsInRange, packed}
use Rattle.mvt_geometry.specs.Walks.{integers_of_part, integers_from, IsPartInRange, AreInRange}
use Rattle.mvt_geometry.proofs.Parts.{deltas_apart, deltas_together, with}

-- ---- points

-- of the points in `all` those in `left` are yet to be put, after `last`
pub record Putting (from : Point) (all : List Point) (old : List ℕ) (last : Point) (left : List Point) (now : List ℕ) : Type 0 where
  pub put : now ++ packed (parameters last left) ≡ old ++ packed (parameters from all)
  pub short : AllByRecursion IsDelta (deltas last left) → AllByRecursion IsDelta (deltas from all)
  pub only : AllByRecursion IsDelta (deltas from all) → AllByRecursion IsDelta (deltas last left)
  pub ends : last_from last left ≡ last_from from all

pub put_point : (from : Point) (all : List Point) (old : List ℕ) (last p : Point) (left : List Point) (now new : List ℕ) → Putting from all old last (p ∷ left) now → new ≡ now ++ packed (parameters last (p ∷ [])) → AllByRecursion IsDelta (deltas last (p ∷ [])) → Putting from all old p left new
put_point from all old last p left now new r e short = record {
  put = ap (λ (s : List ℕ). s ++ packed (parameters p left)) e ∙ append_assoc now (packed (parameters last (p ∷ []))) (packed (parameters p left))
      ∙ ap (λ (s : List ℕ). now ++ s) (sym (flat_map-append shortest (parameters last (p ∷ [])) (parameters p left))) ∙ r.put;
  short = λ h. r.short (short.0, (short.1.0, h));
  only = λ h. (r.only h).1.1;
  ends = r.ends;
}

-- none is left after the last
pub put_points_all : (from : Point) (all : List Point) (old : List ℕ) (last : Point) (n : ℕ) (now : List ℕ) → length all ≤ n → Putting from all old last (drop n all) now
    → (now ≡ old ++ packed (parameters from all)) × AllByRecursion IsDelta (deltas from all) × (last ≡ last_from from all)
put_points_all from all old last n now le r =
    let whole = subst (λ (s : List Point). Putting from all old last s now) (drop_all n all le) r in
    (sym (append-nil now) ∙ whole.put, whole.short tt, whole.ends)

-- ---- parts

pub record PuttingParts (kind : Kind) (all : List (List Point)) (from : Point) (left : List (List Point)) (now : List ℕ) : Type 0 where
  pub put : now ++ packed (integers_from kind from left) ≡ packed (integers_from kind origin all)
  pub in_range : AreInRange kind from left → AreInRange kind origin all
  pub only : AreInRange kind origin all → AreInRange kind from left
  pub parts : AllByRecursion (IsPart kind) left

pub put_part : (kind : Kind) (all : List (List Point)) (from to : Point) (part : List Point) (left : List (List Point)) (now new : List ℕ) → PuttingParts kind all from (part ∷ left) now
    → new ≡ now ++ packed (integers_of_part kind from part) → IsPartInRange kind from part → to ≡ last_from from part → PuttingParts kind all to left new
put_part kind all from to part left now new r e range last = rw last (record {
  put = ap (λ (s : List ℕ). s ++ packed (integers_from kind (last_from from part) left)) e ∙ append_assoc now (packed (integers_of_part kind from part)) (packed (integers_from kind (last_from from part) left))
      ∙ ap (λ (s : List ℕ). now ++ s) (sym (flat_map-append shortest (integers_of_part kind from part) (integers_from kind (last_from from part) left))) ∙ r.put;
  in_range = λ h. r.in_range (range, h);
  only = λ h. (r.only h).1;
  parts = r.parts.1;
})

pub put_parts_all : (kind : Kind) (all : List (List Point)) (from : Point) (now : List ℕ) → PuttingParts kind all from [] now → (now ≡ packed (integers_from kind origin all)) × AreInRange kind origin all
put_parts_all kind all from now r = (sym (append-nil now) ∙ r.put, r.in_range tt)

-- ---- and the geometry

from_lines : (from : Point) (parts : List (List Point)) → integers_from Lines from parts ≡ paths (closing_of Lines) from parts
from_lines from [] = refl
from_lines from (part ∷ parts) = ap (λ (s : List ℕ). path (closing_of Lines) from part ++ s) (from_lines (last_from from part) parts)

from_areas : (from : Point) (parts : List (List Point)) → integers_from Areas from parts ≡ paths (closing_of Areas) from parts
from_areas from [] = refl
from_areas from (part ∷ parts) = ap (λ (s : List ℕ). path (closing_of Areas) from part ++ s) (from_areas (last_from from part) parts)

from_dots : (parts : List (List Point)) → length parts ≡ 1 → integers_from Dots origin parts ≡ integers_of Dots parts
from_dots [] one = absurd (omega arith)
from_dots (part ∷ next ∷ more) one = absurd (omega arith)
from_dots (part ∷ []) one =
    append-nil (integers_of_part Dots origin part) ∙ ap (λ (s : List Point). integers_of_part Dots origin s) (sym (append-nil part))

pub integers-from : (kind : Kind) (parts : List (List Point)) → IsPartCount kind (length parts) → integers_from kind origin parts ≡ integers_of kind parts
integers-from Dots parts counted = from_dots parts counted
integers-from Lines parts counted = from_lines origin parts
integers-from Areas parts counted = from_areas origin parts

all_short : (kind : Kind) (from : Point) (parts : List (List Point)) → AreInRange kind from parts → AllByRecursion IsDelta (deltas from (all_points parts))
all_short kind from [] h = tt
all_short kind from (part ∷ parts) h = deltas_together from part (all_points parts) h.0.short (all_short kind (last_from from part) parts h.1)

all_repeated : (kind : Kind) (from : Point) (parts : List (List Point)) → AreInRange kind from parts → AllByRecursion (IsRepeated kind) parts
all_repeated kind from [] h = tt
all_repeated kind from (part ∷ parts) h = (h.0.repeated, all_repeated kind (last_from from part) parts h.1)

pub whole_in_range : (kind : Kind) (parts : List (List Point)) → AreInRange kind origin parts → IsInRange (with kind parts)
whole_in_range kind parts h = record { short = all_short kind origin parts h; repeated = all_repeated kind origin parts h }

are_from : (kind : Kind) (from : Point) (parts : List (List Point)) → AllByRecursion IsDelta (deltas from (all_points parts)) → AllByRecursion (IsRepeated kind) parts → AreInRange kind from parts
are_from kind from [] short repeated = tt
are_from kind from (part ∷ parts) short repeated =
    let apart = deltas_apart from part (all_points parts) short in
    (record { short = apart.0; repeated = repeated.0 }, are_from kind (last_from from part) parts apart.1 repeated.1)

pub parts_in_range : (kind : Kind) (parts : List (List Point)) → IsInRange (with kind parts) → AreInRange kind origin parts
parts_in_range kind parts h = are_from kind origin parts h.short h.repeated

-- two integers that are put one after the other
pub two_put : (x y old between new : List ℕ) → between ≡ old ++ x → new ≡ between ++ y → new ≡ old ++ (x ++ (y ++ []))
two_put x y old between new first second =
    second ∙ ap (λ (s : List ℕ). s ++ y) first ∙ append_assoc old x y ∙ ap (λ (s : List ℕ). old ++ (x ++ s)) (sym (append-nil y))

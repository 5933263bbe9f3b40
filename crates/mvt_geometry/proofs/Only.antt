-- Numbers have at most one geometry of a kind.
use Rattle.std.proofs.Common.{◌≡◌, ℕ, ◌+◌, ◌*◌, ◌≤◌, suc, List, [], ◌∷◌, ◌++◌, length, refl, sym, ap, ◌∙◌, subst, arith}
use Rattle.mvt_geometry.specs.Shapes.{Point, Kind, Dots, Lines, Areas, kind_number, Geometry, IsGeometry}
use Rattle.mvt_geometry.specs.Integers.{parameters, paths, last_from, closing_of, origin, integers, IsInRange, HasGeometry}
use Rattle.mvt_geometry.specs.Walks.{BeginsWithPart, Goes}
use Rattle.mvt_geometry.specs.Laws.{HasItself}
use Rattle.mvt_geometry.proofs.Fronts.{one_way, begins_once}
use Rattle.mvt_geometry.proofs.Parts.{begins_some, geometry_goes, same_kind}
use Rattle.mvt_geometry.proofs.Single.{AreDots, dots_of}

one_parts : (least : ℕ) (closing : List ℕ) (from : Point) (numbers : List ℕ) (a b : List (List Point)) → 1 ≤ least → Goes least closing from numbers a → Goes least closing from numbers b → a ≡ b
one_parts least closing from numbers [] [] some p q = refl
one_parts least closing from numbers [] (part ∷ b) some p q =
    let begins : BeginsWithPart least closing from numbers part (paths closing (last_from from part) b) = record { valid = q.valid.0; spelled = q.spelled } in
    absurd (omega (arith, ap length p.spelled, begins_some least closing from numbers part (paths closing (last_from from part) b) some begins))
one_parts least closing from numbers (part ∷ a) [] some p q =
    let begins : BeginsWithPart least closing from numbers part (paths closing (last_from from part) a) = record { valid = p.valid.0; spelled = p.spelled } in
    absurd (omega (arith, ap length q.spelled, begins_some least closing from numbers part (paths closing (last_from from part) a) some begins))
one_parts least closing from numbers (part ∷ a) (next ∷ b) some p q =
    let first : BeginsWithPart least closing from numbers part (paths closing (last_from from part) a) = record { valid = p.valid.0; spelled = p.spelled } in
    let second : BeginsWithPart least closing from numbers next (paths closing (last_from from next) b) = record { valid = q.valid.0; spelled = q.spelled } in
    let once = begins_once least closing from numbers part next (paths closing (last_from from part) a) (paths closing (last_from from next) b) some first second in
    let rest : Goes least closing (last_from from next) (paths closing (last_from from next) b) b = record { valid = q.valid.1; spelled = refl } in
    let moved : Goes least closing (last_from from part) (paths closing (last_from from next) b) b = subst (λ (s : List Point). Goes least closing (last_from from s) (paths closing (last_from from next) b) b) (sym once.0) rest in
    let there : Goes least closing (last_from from part) (paths closing (last_from from part) a) b = subst (λ (s : List ℕ). Goes least closing (last_from from part) s b) (sym once.1) moved in
    let others = one_parts least closing (last_from from part) (paths closing (last_from from part) a) a b some (record { valid = p.valid.1; spelled = refl }) there in
    let same : part ≡ next = once.0 in
    cc

same_dots : (numbers : List ℕ) (a b : List (List Point)) → AreDots numbers a → AreDots numbers b → a ≡ b
same_dots numbers a b p q =
    let e : (1 + 8 * suc (length p.others)) ∷ parameters origin (p.first ∷ p.others) ≡ (1 + 8 * suc (length q.others)) ∷ parameters origin (q.first ∷ q.others) = sym p.spelled ∙ q.spelled in
    let counts : 1 + 8 * suc (length p.others) ≡ 1 + 8 * suc (length q.others) = cc in
    let rest : parameters origin (p.first ∷ p.others) ++ [] ≡ parameters origin (q.first ∷ q.others) ++ [] = ap (λ (s : List ℕ). tail_of s ++ []) e in
    let one = one_way origin (p.first ∷ p.others) (q.first ∷ q.others) [] [] (omega arith) rest in
    p.is ∙ ap (λ (s : List Point). s ∷ []) one.0 ∙ sym q.is
  where
    tail_of : List ℕ → List ℕ
    tail_of [] = []
    tail_of (n ∷ s) = s

same_parts : (kind : Kind) (numbers : List ℕ) (g h : Geometry) → HasGeometry (kind_number kind) numbers g → HasGeometry (kind_number kind) numbers h → g.parts ≡ h.parts
same_parts Dots numbers g h p q = same_dots numbers g.parts h.parts (dots_of numbers g p) (dots_of numbers h q)
same_parts Lines numbers g h p q = one_parts 2 (closing_of Lines) origin numbers g.parts h.parts (omega arith) (geometry_goes Lines numbers g tt p) (geometry_goes Lines numbers h tt q)
same_parts Areas numbers g h p q = one_parts 3 (closing_of Areas) origin numbers g.parts h.parts (omega arith) (geometry_goes Areas numbers g tt p) (geometry_goes Areas numbers h tt q)

same_geometry : (g h : Geometry) → g.kind ≡ h.kind → g.parts ≡ h.parts → g ≡ h
same_geometry g h kinds parts =
    let first : g ≡ record { kind = h.kind; parts = g.parts } = ap (λ (k : Kind). let r : Geometry = record { kind = k; parts = g.parts } in r) kinds in
    let second : record { kind = h.kind; parts = g.parts } ≡ h = ap (λ (s : List (List Point)). let r : Geometry = record { kind = h.kind; parts = s } in r) parts in
    first ∙ second

pub one_geometry : (kind : ℕ) (numbers : List ℕ) (g h : Geometry) → HasGeometry kind numbers g → HasGeometry kind numbers h → g ≡ h
one_geometry kind numbers g h p q =
    let kinds : g.kind ≡ h.kind = same_kind g.kind h.kind (sym p.of_kind ∙ q.of_kind) in
    let p' = subst (λ (n : ℕ). HasGeometry n numbers g) p.of_kind p in
    let q' = subst (λ (n : ℕ). HasGeometry n numbers h) p.of_kind q in
    same_geometry g h kinds (same_parts g.kind numbers g h p' q')

pub has_itself : (g : Geometry) → IsGeometry g → IsInRange g → HasItself g
has_itself g valid range =
    let has : HasGeometry (kind_number g.kind) (integers g) g = record { of_kind = refl; valid = valid; in_range = range; spelled = refl } in
    record { has = has; only = λ h q. one_geometry (kind_number g.kind) (integers g) h g q has }

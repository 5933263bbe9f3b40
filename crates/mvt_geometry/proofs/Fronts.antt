-- The path of a part at the front of numbers: what the numbers are then, and that no other part has its path there.
use Rattle.std.proofs.Common.{◌≡◌, ℕ, ◌+◌, ◌*◌, ◌/◌, ◌^◌, ◌<◌, ◌≤◌, suc, List, [], ◌∷◌, ◌++◌, length, take, drop, get_or, refl, sym, ap, ◌∙◌, subst, arith, append_assoc}
use Rattle.std.specs.List.{AllByRecursion}
use Rattle.std.proofs.lemmas.List.{take_at, append_cancel_left}
use Rattle.mvt_geometry.specs.Shapes.{Point, IsPlaced}
use Rattle.mvt_geometry.specs.Integers.{parameters, path, last_from}
use Rattle.mvt_geometry.specs.Walks.{IsMove, LeadsThrough, GoesOn, BeginsWithPart}
use Rattle.mvt_geometry.proofs.Moves.{one_move, same_way}

-- ---- how many numbers, and which points they lead to

pub length-parameters : (from : Point) (points : List Point) → length (parameters from points) ≡ 2 * length points
length-parameters from [] = refl
length-parameters from (p ∷ points) = omega (arith, length-parameters p points)

pub one_way : (from : Point) (a b : List Point) (x y : List ℕ) → length a ≡ length b → parameters from a ++ x ≡ parameters from b ++ y → (a ≡ b) × (x ≡ y)
one_way from [] [] x y same e = (refl, e)
one_way from [] (q ∷ b) x y same e = absurd (omega arith)
one_way from (p ∷ a) [] x y same e = absurd (omega arith)
one_way from (p ∷ a) (q ∷ b) x y same e =
    let first : p ≡ q = same_way from p q (cc) (cc) in
    let rest : parameters p a ++ x ≡ parameters q b ++ y = cc in
    let others = one_way p a b x y (omega arith) (rest ∙ ap (λ (r : Point). parameters r b ++ y) (sym first)) in
    let tail : a ≡ b = others.0 in
    ((cc), others.1)

-- ---- the numbers of a path

pub path-append : (closing : List ℕ) (from first : Point) (points : List Point) (rest : List ℕ) → path closing from (first ∷ points) ++ rest ≡ 9 ∷ (parameters from (first ∷ []) ++ ((2 + 8 * length points) ∷ (parameters first points ++ (closing ++ rest))))
path-append closing from first points rest = simp append_assoc

pub path_closed : (closing : List ℕ) (from : Point) (points : List Point) (rest : List ℕ) → 1 ≤ length points → path closing from points ++ rest ≡ path [] from points ++ (closing ++ rest)
path_closed closing from [] rest some = absurd (omega arith)
path_closed closing from (first ∷ points) rest some = path-append closing from first points rest ∙ sym (path-append [] from first points (closing ++ rest))

pub one_path : (closing : List ℕ) (from : Point) (a b : List Point) (x y : List ℕ) → 1 ≤ length a → 1 ≤ length b → path closing from a ++ x ≡ path closing from b ++ y → (a ≡ b) × (x ≡ y)
one_path closing from [] b x y some some' e = absurd (omega arith)
one_path closing from (p ∷ a) [] x y some some' e = absurd (omega arith)
one_path closing from (p ∷ a) (q ∷ b) x y some some' e =
    let flat = sym (path-append closing from p a x) ∙ e ∙ path-append closing from q b y in
    let first : p ≡ q = same_way from p q (cc) (cc) in
    let counts : 2 + 8 * length a ≡ 2 + 8 * length b = cc in
    let rest : parameters p a ++ (closing ++ x) ≡ parameters q b ++ (closing ++ y) = cc in
    let others = one_way p a b (closing ++ x) (closing ++ y) (omega arith) (rest ∙ ap (λ (r : Point). parameters r b ++ (closing ++ y)) (sym first)) in
    let tail : a ≡ b = others.0 in
    ((cc), append_cancel_left closing x y others.1)

-- ---- numbers that begin with a path

pub begins_once : (least : ℕ) (closing : List ℕ) (from : Point) (numbers : List ℕ) (a b : List Point) (x y : List ℕ) → 1 ≤ least → BeginsWithPart least closing from numbers a x → BeginsWithPart least closing from numbers b y → (a ≡ b) × (x ≡ y)
begins_once least closing from numbers a b x y some p q =
    one_path closing from a b x y (omega (arith, p.valid.enough)) (omega (arith, q.valid.enough)) (sym p.spelled ∙ q.spelled)

pub begins_open : (least : ℕ) (closing : List ℕ) (from : Point) (numbers : List ℕ) (points : List Point) (rest : List ℕ) → 1 ≤ least → BeginsWithPart least closing from numbers points rest → BeginsWithPart least [] from numbers points (closing ++ rest)
begins_open least closing from numbers points rest some p = record {
  valid = p.valid;
  spelled = p.spelled ∙ path_closed closing from points rest (omega (arith, p.valid.enough));
}

-- ---- and what the first of them say

-- numbers of which these are the first four
pub record Opens (least : ℕ) (from : Point) (a x y c : ℕ) (following : List ℕ) (points : List Point) (rest : List ℕ) : Type 0 where
  pub first : Point
  pub others : List Point
  pub is : points ≡ first ∷ others
  pub move_to : a ≡ 9
  pub line_to : c ≡ 2 + 8 * length others
  pub moves : IsMove from x y first
  pub leads : LeadsThrough first (parameters first others) others
  pub spelled : following ≡ parameters first others ++ rest
  pub enough : least ≤ suc (length others)

pub opens_from : (least : ℕ) (from : Point) (a x y c : ℕ) (following : List ℕ) (points : List Point) (rest : List ℕ) → 1 ≤ least → BeginsWithPart least [] from (a ∷ x ∷ y ∷ c ∷ following) points rest → Opens least from a x y c following points rest
opens_from least from a x y c following [] rest some p = let e = p.valid.enough in absurd (omega arith)
opens_from least from a x y c following (first ∷ others) rest some p =
    let flat = p.spelled ∙ path-append [] from first others rest in
    record {
      first = first;
      others = others;
      is = refl;
      move_to = cc;
      line_to = cc;
      moves = record {
        along = record { spelled = cc; short = p.valid.short.0; placed = p.valid.placed.0.x };
        down = record { spelled = cc; short = p.valid.short.1.0; placed = p.valid.placed.0.y };
      };
      leads = record { spelled = refl; short = p.valid.short.1.1; placed = p.valid.placed.1 };
      spelled = cc;
      enough = p.valid.enough;
    }

pub begins_from : (least : ℕ) (from : Point) (x y n : ℕ) (numbers following rest : List ℕ) (first : Point) (points : List Point) → IsMove from x y first → GoesOn first numbers points → length numbers ≡ 2 * n → least ≤ 1 + n → n < 2 ^ 29 → following ≡ numbers ++ rest → BeginsWithPart least [] from (9 ∷ x ∷ y ∷ (2 + 8 * n) ∷ following) points rest
begins_from least from x y n numbers following rest first [] m g count enough few is = absurd g
begins_from least from x y n numbers following rest first (p ∷ points) m g count enough few is =
    let same : p ≡ first = g.0 in
    let l = subst (λ (q : Point). LeadsThrough q numbers points) (sym same) g.1 in
    let move = subst (λ (q : Point). IsMove from x y q) (sym same) m in
    let counts : length points ≡ n = omega (arith, length-parameters p points, ap length l.spelled) in
    let along = move.along.spelled in
    let down = move.down.spelled in
    let flat : following ≡ parameters p points ++ rest = is ∙ ap (λ (s : List ℕ). s ++ rest) l.spelled in
    let line : 2 + 8 * n ≡ 2 + 8 * length points = omega arith in
    record {
      valid = record {
        enough = omega arith;
        placed = (record { x = move.along.placed; y = move.down.placed }, l.placed);
        short = (move.along.short, (move.down.short, l.short));
        repeated = omega arith;
      };
      spelled = same_front along down line flat ∙ sym (path-append [] from p points rest);
    }
  where
    same_front : {x y c : ℕ} {s : List ℕ} {x' y' c' : ℕ} {s' : List ℕ} → x ≡ x' → y ≡ y' → c ≡ c' → s ≡ s' → 9 ∷ x ∷ y ∷ c ∷ s ≡ 9 ∷ x' ∷ y' ∷ c' ∷ s'
    same_front p q r t = cc

-- ---- what is not a path

pub four_at_least : (least : ℕ) (from : Point) (numbers : List ℕ) (points : List Point) (rest : List ℕ) → 1 ≤ least → BeginsWithPart least [] from numbers points rest → 4 ≤ length numbers
four_at_least least from numbers [] rest some p = let e = p.valid.enough in absurd (omega arith)
four_at_least least from numbers (first ∷ points) rest some p = let e = ap length (p.spelled ∙ path-append [] from first points rest) in omega (arith, e)

pub first_four : (s : List ℕ) → 4 ≤ length s → s ≡ get_or s 0 0 ∷ get_or s 1 0 ∷ get_or s 2 0 ∷ get_or s 3 0 ∷ drop 4 s
first_four [] h = absurd (omega arith)
first_four (a ∷ []) h = absurd (omega arith)
first_four (a ∷ b ∷ []) h = absurd (omega arith)
first_four (a ∷ b ∷ c ∷ []) h = absurd (omega arith)
first_four (a ∷ b ∷ c ∷ d ∷ s) h = refl

pub begins_with_four : (least : ℕ) (from : Point) (numbers : List ℕ) (points : List Point) (rest : List ℕ) → 1 ≤ least → BeginsWithPart least [] from numbers points rest → Opens least from (get_or numbers 0 0) (get_or numbers 1 0) (get_or numbers 2 0) (get_or numbers 3 0) (drop 4 numbers) points rest
begins_with_four least from numbers points rest some p =
    let front = first_four numbers (four_at_least least from numbers points rest some p) in
    opens_from least from _ _ _ _ _ points rest some (subst (λ (s : List ℕ). BeginsWithPart least [] from s points rest) front p)

-- the numbers that lead from the first point of a path to its others
pub goes_on_from : (least : ℕ) (from : Point) (numbers : List ℕ) (points : List Point) (rest : List ℕ) (first : Point) → 1 ≤ least → BeginsWithPart least [] from numbers points rest → IsMove from (get_or numbers 1 0) (get_or numbers 2 0) first → GoesOn first (take (2 * (get_or numbers 3 0 / 8)) (drop 4 numbers)) points
goes_on_from least from numbers points rest first some p m =
    let o = begins_with_four least from numbers points rest some p in
    let same : o.first ≡ first = one_move from _ _ o.first first o.moves m in
    let count : length (parameters o.first o.others) ≡ 2 * (get_or numbers 3 0 / 8) = omega (arith, length-parameters o.first o.others, o.line_to) in
    let front : take (2 * (get_or numbers 3 0 / 8)) (drop 4 numbers) ≡ parameters o.first o.others =
    ap (λ (s : List ℕ). take (2 * (get_or numbers 3 0 / 8)) s) o.spelled ∙ take_at (parameters o.first o.others) rest _ count in
    let there : GoesOn o.first (parameters o.first o.others) (o.first ∷ o.others) = (refl, o.leads) in
    let here : GoesOn first (parameters o.first o.others) (o.first ∷ o.others) = subst (λ (q : Point). GoesOn q (parameters o.first o.others) (o.first ∷ o.others)) same there in
    let led : GoesOn first (take (2 * (get_or numbers 3 0 / 8)) (drop 4 numbers)) (o.first ∷ o.others) = subst (λ (s : List ℕ). GoesOn first s (o.first ∷ o.others)) (sym front) here in
    subst (λ (s : List Point). GoesOn first (take (2 * (get_or numbers 3 0 / 8)) (drop 4 numbers)) s) (sym o.is) led

pub last_placed : (from : Point) (points : List Point) → IsPlaced from → AllByRecursion IsPlaced points → IsPlaced (last_from from points)
last_placed from [] placed all = placed
last_placed from (p ∷ points) placed all = last_placed p points all.0 all.1

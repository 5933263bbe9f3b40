-- Marks whose points are counted from a floor, alongside what is done to marks.
use Rattle.std.proofs.Common.{◌≡◌, ℕ, ◌+◌, Bool, not, ◌&&◌, nat_le, option_map, List, [], ◌∷◌, ◌++◌, length, filter, map, refl, sym, ap, ap₂, ◌∙◌, subst, inl, inr, arith}
use Rattle.std.specs.List.{AllByRecursion, slice_get}
use Rattle.std.specs.List.Sorted.{IsStrictlySortedBy}
use Rattle.std.proofs.lemmas.Bool.{cases_Bool}
use Rattle.std.proofs.lemmas.List.{map-append, length-map}
use Rattle.std.proofs.lemmas.List.Elements.{filter_agree}
use Rattle.std.proofs.lemmas.Bool.Decides.{nat_tests}
use Rattle.mvt_history_steps.specs.Marks.{Mark, compared, has_name, is_before, is_after, InOrder, point_of, bound, unbound, between, counted_from}

-- what a filter keeps of a list that was mapped
pub filter_mapped : {A B : Type 0} (f : A → B) (test : B → Bool) (xs : List A) → filter test (map f xs) ≡ map f (filter (λ x. test (f x)) xs)
filter_mapped f test [] = refl
filter_mapped f test (x ∷ xs) =
    let rest = filter_mapped f test xs in
    elim (cases_Bool (test (f x))) [ inl kept ↦ rw kept (ap (λ ys. f x ∷ ys) rest) | inr gone ↦ rw gone rest ]

pub counted_twice : (more floor : ℕ) (marks : List Mark) → map (counted_from more) (map (counted_from floor) marks) ≡ map (counted_from (more + floor)) marks
counted_twice more floor [] = refl
counted_twice more floor (mark ∷ marks) =
    let point : more + (floor + mark.point) ≡ more + floor + mark.point = omega arith in
    ap₂ (λ n ys. record { name = mark.name; point = n } ∷ ys) point (counted_twice more floor marks)

first_counted : (floor : ℕ) (marks : List Mark) → option_map (λ mark. mark.point) (slice_get (map (counted_from floor) marks) 0) ≡ option_map (λ point. floor + point) (option_map (λ mark. mark.point) (slice_get marks 0))
first_counted floor [] = refl
first_counted floor (mark ∷ marks) = refl

pub counted_point_of : (floor : ℕ) (name : List ℕ) (marks : List Mark) → point_of name (map (counted_from floor) marks) ≡ option_map (λ point. floor + point) (point_of name marks)
counted_point_of floor name marks =
    ap (λ kept. option_map (λ mark. mark.point) (slice_get kept 0)) (filter_mapped (counted_from floor) (has_name name) marks) ∙ first_counted floor (filter (has_name name) marks)

pub counted_bound : (floor : ℕ) (name : List ℕ) (point : ℕ) (marks : List Mark) → bound name (floor + point) (map (counted_from floor) marks) ≡ map (counted_from floor) (bound name point marks)
counted_bound floor name point marks =
    ap₂ (λ before following. before ++ record { name = name; point = floor + point } ∷ following) (filter_mapped (counted_from floor) (is_before name) marks) (filter_mapped (counted_from floor) (is_after name) marks)
    ∙ sym (map-append (counted_from floor) (filter (is_before name) marks) (record { name = name; point = point } ∷ filter (is_after name) marks))

pub counted_unbound : (floor : ℕ) (name : List ℕ) (marks : List Mark) → unbound name (map (counted_from floor) marks) ≡ map (counted_from floor) (unbound name marks)
counted_unbound floor name marks = filter_mapped (counted_from floor) (λ mark. not (has_name name mark)) marks

within_counted : (floor low high point : ℕ) → (nat_le (floor + low) (floor + point) && nat_le (floor + point) (floor + high)) ≡ (nat_le low point && nat_le point high)
within_counted floor low high point =
    let from : nat_le (floor + low) (floor + point) ≡ nat_le low point = grind (arith, nat_tests) in
    let to : nat_le (floor + point) (floor + high) ≡ nat_le point high = grind (arith, nat_tests) in
    ap₂ (λ a b. a && b) from to

pub counted_between : (floor low high : ℕ) (marks : List Mark) → between (floor + low) (floor + high) (map (counted_from floor) marks) ≡ map (counted_from floor) (between low high marks)
counted_between floor low high marks =
    filter_mapped (counted_from floor) (λ mark. nat_le (floor + low) mark.point && nat_le mark.point (floor + high)) marks
    ∙ ap (map (counted_from floor)) (filter_agree (λ mark. nat_le (floor + low) (floor + mark.point) && nat_le (floor + mark.point) (floor + high)) (λ mark. nat_le low mark.point && nat_le mark.point high) (λ mark. within_counted floor low high mark.point) marks)

-- ---- the names are as they were

pub counted_names : (floor : ℕ) (marks : List Mark) → map (λ mark. mark.name) (map (counted_from floor) marks) ≡ map (λ mark. mark.name) marks
counted_names floor [] = refl
counted_names floor (mark ∷ marks) = ap (λ ys. mark.name ∷ ys) (counted_names floor marks)

pub in_order_from_counted : (floor : ℕ) (marks : List Mark) → InOrder (map (counted_from floor) marks) → InOrder marks
in_order_from_counted floor marks order = subst (IsStrictlySortedBy compared) (counted_names floor marks) order

-- ---- what holds for each

pub all_from_counted : (P Q : Mark → Type 0) (floor : ℕ) → ((mark : Mark) → Q (counted_from floor mark) → P mark) → (marks : List Mark) → AllByRecursion Q (map (counted_from floor) marks) → AllByRecursion P marks
all_from_counted P Q floor says [] all = tt
all_from_counted P Q floor says (mark ∷ marks) all = (says mark all.0, all_from_counted P Q floor says marks all.1)

-- Marks that are set and removed stay in order, are few, and are of the points that they were of.
use Rattle.std.proofs.Common.{◌≡◌, subst, ℕ, suc, ◌+◌, ◌<◌, ◌≤◌, Bool, true, cond, not, is_some, nat_lt, Some, option_map, List, [], ◌∷◌, ◌++◌, length, map, refl, ap, ◌∙◌, inl, inr, arith, length-append, ◌||◌}
use Rattle.std.specs.List.{AllByRecursion, filter, slice_get}
use Rattle.std.specs.List.Sorted.{IsStrictlySortedBy}
use Rattle.std.specs.Ordering.{is_lt, is_gt, is_eq, ordering_reverse}
use Rattle.std.specs.declared.cmp.Ordering.{Ordering}
use Rattle.std.specs.declared.cmp.Ordering.TheVariants.{Less, Equal, Greater}
use Rattle.std.proofs.lemmas.Bool.{cases_Bool}
use Rattle.std.proofs.lemmas.Bool.Decides.{nat_tests}
use Rattle.std.proofs.lemmas.Cmp.{nat_list_cmp_total}
use Rattle.mvt_document.proofs.EachItem.{all_joined}
use Rattle.mvt_meaning.proofs.Elements.{all_filtered}
use Rattle.mvt_history_steps.specs.Marks.{Mark, compared, has_name, is_before, is_after, InOrder, point_of, bound, unbound}
use Rattle.mvt_history_steps.specs.declared.TheConstants.{MAX_MARKS}

-- ---- what holds for each

-- what holds for each that passes
pub all_passed : {A : Type 0} (P : A → Type 0) (test : A → Bool) → ((x : A) → test x ≡ true → P x) → (xs : List A) → AllByRecursion P (filter test xs)
all_passed P test says [] = tt
all_passed P test says (x ∷ xs) =
    elim (cases_Bool (test x)) [ inl kept ↦ rw kept (says x kept, all_passed P test says xs) | inr gone ↦ rw gone (all_passed P test says xs) ]

pub all_bound : (P : Mark → Type 0) (name : List ℕ) (point : ℕ) (marks : List Mark) → P (record { name = name; point = point }) → AllByRecursion P marks → AllByRecursion P (bound name point marks)
all_bound P name point marks new all =
    all_joined P (filter (is_before name) marks) (record { name = name; point = point } ∷ filter (is_after name) marks) (all_filtered P (is_before name) marks all) (new, all_filtered P (is_after name) marks all)

-- ---- in order

abbrev names : List Mark → List (List ℕ)
names marks = map (λ mark. mark.name) marks

all_names_filtered : (P : List ℕ → Type 0) (test : Mark → Bool) (marks : List Mark) → AllByRecursion P (names marks) → AllByRecursion P (names (filter test marks))
all_names_filtered P test [] all = tt
all_names_filtered P test (mark ∷ marks) all =
    elim (cases_Bool (test mark)) [ inl kept ↦ rw kept (all.0, all_names_filtered P test marks all.1) | inr gone ↦ rw gone (all_names_filtered P test marks all.1) ]

pub order_filtered : (test : Mark → Bool) (marks : List Mark) → InOrder marks → InOrder (filter test marks)
unfolding IsStrictlySortedBy
order_filtered test [] order = tt
order_filtered test (mark ∷ marks) order =
    elim (cases_Bool (test mark)) [
      | inl kept ↦ rw kept (all_names_filtered (λ name. compared mark.name name ≡ Less) test marks order.0, order_filtered test marks order.1)
      | inr gone ↦ rw gone (order_filtered test marks order.1)
    ]

less : (o : Ordering) → is_lt o ≡ true → o ≡ Less
less Less e = refl
less Equal e = absurd cc
less Greater e = absurd cc

greater : (o : Ordering) → is_gt o ≡ true → o ≡ Greater
greater Less e = absurd cc
greater Equal e = absurd cc
greater Greater e = refl

all_before : (name : List ℕ) (marks : List Mark) → AllByRecursion (λ other. compared other name ≡ Less) (names (filter (is_before name) marks))
all_before name [] = tt
all_before name (mark ∷ marks) =
    elim (cases_Bool (is_before name mark)) [ inl kept ↦ rw kept (less (compared mark.name name) kept, all_before name marks) | inr gone ↦ rw gone (all_before name marks) ]

all_following : (name : List ℕ) (marks : List Mark) → AllByRecursion (λ other. compared name other ≡ Less) (names (filter (is_after name) marks))
all_following name [] = tt
all_following name (mark ∷ marks) =
    elim (cases_Bool (is_after name mark)) [
      | inl kept ↦ rw kept (nat_list_cmp_total.antisymm name mark.name ∙ ap ordering_reverse (greater (compared mark.name name) kept), all_following name marks)
      | inr gone ↦ rw gone (all_following name marks)
    ]

all_after : (first second : List ℕ) (others : List (List ℕ)) → compared first second ≡ Less → AllByRecursion (λ other. compared second other ≡ Less) others → AllByRecursion (λ other. compared first other ≡ Less) others
all_after first second [] e all = tt
all_after first second (other ∷ others) e all = (nat_list_cmp_total.trans first second other e all.0, all_after first second others e all.1)

names_joined : (P : List ℕ → Type 0) (before : List Mark) (middle : Mark) (following : List Mark) → AllByRecursion P (names before) → P middle.name → AllByRecursion P (names following) → AllByRecursion P (names (before ++ middle ∷ following))
names_joined P [] middle following low here high = (here, high)
names_joined P (mark ∷ before) middle following low here high = (low.0, names_joined P before middle following low.1 here high)

-- two lists in order, one before a name and the other after it
joined_in_order : (before : List Mark) (middle : Mark) (following : List Mark) → InOrder before → AllByRecursion (λ other. compared other middle.name ≡ Less) (names before) → AllByRecursion (λ other. compared middle.name other ≡ Less) (names following) → InOrder following → InOrder (before ++ middle ∷ following)
unfolding IsStrictlySortedBy
joined_in_order [] middle following order low high more = (high, more)
joined_in_order (mark ∷ before) middle following order low high more =
    (names_joined (λ other. compared mark.name other ≡ Less) before middle following order.0 low.0 (all_after mark.name middle.name (names following) low.0 high), joined_in_order before middle following order.1 low.1 high more)

pub order_bound : (name : List ℕ) (point : ℕ) (marks : List Mark) → InOrder marks → InOrder (bound name point marks)
order_bound name point marks order =
    joined_in_order (filter (is_before name) marks) (record { name = name; point = point }) (filter (is_after name) marks) (order_filtered (is_before name) marks order) (all_before name marks) (all_following name marks) (order_filtered (is_after name) marks order)

pub order_unbound : (name : List ℕ) (marks : List Mark) → InOrder marks → InOrder (unbound name marks)
order_unbound name marks order = order_filtered (λ mark. not (has_name name mark)) marks order

-- ---- few

pub length_filtered : {A : Type 0} (test : A → Bool) (xs : List A) → length (filter test xs) ≤ length xs
length_filtered test [] = omega arith
length_filtered test (x ∷ xs) =
    let rest = length_filtered test xs in
    elim (cases_Bool (test x)) [ inl kept ↦ rw kept (omega arith) | inr gone ↦ rw gone (omega arith) ]

-- each mark is before the name, has it, or is after it
by_order : (order : Ordering) (before same following : List Mark) (mark : Mark) (all : ℕ) → length before + length same + length following ≡ all → length (cond (is_lt order) (mark ∷ before) before) + length (cond (is_eq order) (mark ∷ same) same) + length (cond (is_gt order) (mark ∷ following) following) ≡ suc all
by_order Less before same following mark all e = omega (arith, e)
by_order Equal before same following mark all e = omega (arith, e)
by_order Greater before same following mark all e = omega (arith, e)

length_by_name : (name : List ℕ) (marks : List Mark) → length (filter (is_before name) marks) + length (filter (has_name name) marks) + length (filter (is_after name) marks) ≡ length marks
length_by_name name [] = refl
length_by_name name (mark ∷ marks) =
    let rest = length_by_name name marks in by_order (compared mark.name name) (filter (is_before name) marks) (filter (has_name name) marks) (filter (is_after name) marks) mark (length marks) rest

-- a name that marks a point is there
length_named : {A : Type 0} (f : A → ℕ) (xs : List A) → is_some (option_map f (slice_get xs 0)) ≡ true → 1 ≤ length xs
length_named f [] e = absurd cc
length_named f (x ∷ xs) e = omega arith

pub length_bound : (name : List ℕ) (point : ℕ) (marks : List Mark) → length (bound name point marks) ≡ length (filter (is_before name) marks) + suc (length (filter (is_after name) marks))
length_bound name point marks = length-append (filter (is_before name) marks) (record { name = name; point = point } ∷ filter (is_after name) marks)

pub few_bound : (name : List ℕ) (point : ℕ) (marks : List Mark) → (is_some (point_of name marks) || nat_lt (length marks) MAX_MARKS) ≡ true → length marks ≤ MAX_MARKS → length (bound name point marks) ≤ MAX_MARKS
few_bound name point marks room few =
    let all = length_by_name name marks in
    let new = length_bound name point marks in
    elim (cases_Bool (is_some (point_of name marks))) [
      | inl there ↦ (let some = length_named (λ mark. mark.point) (filter (has_name name) marks) there in omega (arith, all, new, some, few))
      | inr not_there ↦ (let more : nat_lt (length marks) MAX_MARKS ≡ true = rw not_there at room in let less : length marks < MAX_MARKS = grind (arith, nat_tests, more) in omega (arith, all, new, less))
    ]

-- ---- the point of a name

first_holds : (P : ℕ → Type 0) (marks : List Mark) → AllByRecursion (λ mark. P mark.point) marks → (point : ℕ) → option_map (λ mark. mark.point) (slice_get marks 0) ≡ Some point → P point
first_holds P [] all point e = absurd cc
first_holds P (mark ∷ marks) all point e = let same : mark.point ≡ point = cc in subst P same all.0

-- what holds for all points holds for the one that a name marks
pub point_holds : (P : ℕ → Type 0) (name : List ℕ) (marks : List Mark) → AllByRecursion (λ mark. P mark.point) marks → (point : ℕ) → point_of name marks ≡ Some point → P point
point_holds P name marks all point e = first_holds P (filter (has_name name) marks) (all_filtered (λ mark. P mark.point) (has_name name) marks all) point e

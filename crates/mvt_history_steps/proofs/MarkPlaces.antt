-- Where a search finds a name among marks in order, and what the list is after an edit there.
use Rattle.std.proofs.Common.{◌≡◌, ℕ, zero, suc, ◌<◌, ◌≤◌, Bool, true, false, not, Option, Some, None, option_map, Result, Ok, Err, IsSomeAnd, List, [], ◌∷◌, ◌++◌, length, filter, map, take, drop, get_or, slice_get, set, insert, remove, refl, sym, ap, ap₂, ◌∙◌, subst, inl, inr, arith, take-append-drop}
use Rattle.std.specs.List.{AllByRecursion, AllWithin}
use Rattle.std.specs.List.Sorted.{IsStrictlySortedBy, IsNonDecreasingBy, IsBinarySearchResult, IsSearchInRange}
use Rattle.std.specs.Cmp.Lexicographic.{bytes_decides, texts_ties}
use Rattle.std.specs.Ordering.{is_lt, is_eq, is_gt, ordering_index, ordering_reverse}
use Rattle.std.specs.declared.cmp.Ordering.{Ordering}
use Rattle.std.specs.declared.cmp.Ordering.TheVariants.{Less, Equal, Greater}
use Rattle.std.proofs.lemmas.Bool.{cases_Bool}
use Rattle.std.proofs.lemmas.Cmp.{nat_list_cmp_total, alike_right, tied_itself}
use Rattle.std.specs.Result.{result_ok}
use Rattle.std.proofs.lemmas.Option.{slice_get_within, slice_get-map, slice_get-get_or, same_Some}
use Rattle.std.proofs.lemmas.List.{map-append, take-map, drop-map, set_split, length-map}
use Rattle.std.proofs.lemmas.List.Elements.{filter-append}
use Rattle.mvt_history_steps.specs.Marks.{Mark, compared, has_name, is_before, is_after, InOrder, IsPlaceOf, point_of, bound, unbound}
use Rattle.mvt_history_steps.specs.declared.marks.Mark as held
use Rattle.mvt_history_steps.specs.Held.{mark_of}

-- ---- names that are compared

same_name : (first second : List ℕ) → compared first second ≡ Equal → first ≡ second
same_name first second e = (bytes_decides first second).0 (texts_ties first second ∙ ap is_eq e)

has_own_name : (name : List ℕ) (mark : Mark) → mark.name ≡ name → has_name name mark ≡ true
has_own_name name mark e = ap is_eq (subst (λ own. compared own name ≡ Equal) (sym e) (tied_itself nat_list_cmp_total name))

at_most_greater : (order : Ordering) → ordering_index order ≤ 2
at_most_greater Less = omega arith
at_most_greater Equal = omega arith
at_most_greater Greater = omega arith

rises_by : (first second name : List ℕ) → compared first second ≡ Less → (order : Ordering) → compared second name ≡ order → ordering_index (compared first name) ≤ ordering_index order
rises_by first second name less Less e = rw (nat_list_cmp_total.trans first second name less e) (omega arith)
rises_by first second name less Equal e = rw (sym (alike_right nat_list_cmp_total second name first e) ∙ less) (omega arith)
rises_by first second name less Greater e = at_most_greater (compared first name)

-- ---- what is found

-- all marks that come after a name pass `is_after`
all_following : (name : List ℕ) (marks : List Mark) → AllByRecursion (λ other. compared name other ≡ Less) (map (λ mark. mark.name) marks) → (filter (is_before name) marks ≡ []) × (filter (is_after name) marks ≡ marks)
all_following name [] all = (refl, refl)
all_following name (mark ∷ marks) all =
    let greater : compared mark.name name ≡ Greater = nat_list_cmp_total.antisymm mark.name name ∙ ap ordering_reverse all.0 in
    let rest = all_following name marks all.1 in
    rw greater (rest.0, ap (λ others. mark ∷ others) rest.1)

later_at : (first : List ℕ) (marks : List held.Mark) (place : ℕ) (other : held.Mark) → place < length marks → AllByRecursion (λ other. compared first other ≡ Less) (map (λ mark. mark.name) (map mark_of marks)) → compared first (get_or marks place other).name.items ≡ Less
later_at first [] place other within all = absurd (omega arith)
later_at first (mark ∷ marks) zero other within all = all.0
later_at first (mark ∷ marks) (suc place) other within all = later_at first marks place other (omega arith) all.1

rises : (name : List ℕ) (marks : List held.Mark) → InOrder (map mark_of marks) → IsNonDecreasingBy (λ mark. ordering_index (compared mark.name.items name)) marks
unfolding IsStrictlySortedBy
rises name [] order i j other before within = absurd (omega arith)
rises name (mark ∷ marks) order zero zero other before within = omega arith
rises name (mark ∷ marks) order zero (suc j) other before within =
    let next = get_or marks j other in
    rises_by mark.name.items next.name.items name (later_at mark.name.items marks j other (omega arith) order.0) (compared next.name.items name) refl
rises name (mark ∷ marks) order (suc i) zero other before within = absurd (omega arith)
rises name (mark ∷ marks) order (suc i) (suc j) other before within = rises name marks order.1 i j other (omega arith) (omega arith)

found : (name : List ℕ) (marks : List held.Mark) (place : ℕ) → InOrder (map mark_of marks) → place < length marks → ((other : held.Mark) → compared (get_or marks place other).name.items name ≡ Equal) → IsPlaceOf name (map mark_of marks) (Ok place)
unfolding IsStrictlySortedBy
found name [] place order within at = absurd (omega arith)
found name (mark ∷ marks) zero order within at =
    let equal : compared mark.name.items name ≡ Equal = at mark in
    let same = same_name mark.name.items name equal in
    let following = all_following name (map mark_of marks) (subst (λ own. AllByRecursion (λ other. compared own other ≡ Less) (map (λ mark. mark.name) (map mark_of marks))) same order.0) in
    rw equal (sym following.0, sym following.1, same)
found name (mark ∷ marks) (suc place) order within at =
    let rest = found name marks place order.1 (omega arith) at in
    let there = get_or marks place mark in
    let less : compared mark.name.items name ≡ Less = sym (alike_right nat_list_cmp_total there.name.items name mark.name.items (at mark)) ∙ later_at mark.name.items marks place mark (omega arith) order.0 in
    rw less (ap (λ others. mark_of mark ∷ others) rest.0, rest.1, rest.2)

parted : (name : List ℕ) (marks : List held.Mark) (place : ℕ) → AllWithin (λ mark. compared mark.name.items name ≡ Less) marks 0 place → AllWithin (λ mark. compared mark.name.items name ≡ Greater) marks place (length marks) → place ≤ length marks → (take place (map mark_of marks) ≡ filter (is_before name) (map mark_of marks)) × (drop place (map mark_of marks) ≡ filter (is_after name) (map mark_of marks))
parted name [] zero low high within = (refl, refl)
parted name [] (suc place) low high within = (refl, refl)
parted name (mark ∷ marks) zero low high within =
    let greater : compared mark.name.items name ≡ Greater = high zero mark (omega arith) (omega arith) in
    let rest = parted name marks zero (λ k other from to. absurd (omega arith)) (λ k other from to. high (suc k) other (omega arith) (omega arith)) (omega arith) in
    rw greater (rest.0, ap (λ others. mark_of mark ∷ others) rest.1)
parted name (mark ∷ marks) (suc place) low high within =
    let less : compared mark.name.items name ≡ Less = low zero mark (omega arith) (omega arith) in
    let rest = parted name marks place (λ k other from to. low (suc k) other (omega arith) (omega arith)) (λ k other from to. high (suc k) other (omega arith) (omega arith)) (omega arith) in
    rw less (ap (λ others. mark_of mark ∷ others) rest.0, rest.1)

pub placed : (name : List ℕ) (marks : List held.Mark) (place : Result ℕ ℕ) → InOrder (map mark_of marks) → IsSearchInRange place (length marks) → IsBinarySearchResult (λ mark. compared mark.name.items name) marks place → IsPlaceOf name (map mark_of marks) place
placed name marks (Ok place) order within says = found name marks place order within says
placed name marks (Err place) order within says =
    let sides = says (rises name marks order) in
    let parts = parted name marks place sides.0 sides.1 within in
    let long = length-map marks mark_of in
    (parts.0, parts.1, omega arith)

-- ---- a filter after another

none_pass : {A : Type 0} (first second : A → Bool) → ((x : A) → first x ≡ true → second x ≡ false) → (xs : List A) → filter second (filter first xs) ≡ []
none_pass first second apart [] = refl
none_pass first second apart (x ∷ xs) =
    elim (cases_Bool (first x)) [ inl kept ↦ rw (kept, apart x kept) (none_pass first second apart xs) | inr gone ↦ rw gone (none_pass first second apart xs) ]

all_pass : {A : Type 0} (first second : A → Bool) → ((x : A) → first x ≡ true → second x ≡ true) → (xs : List A) → filter second (filter first xs) ≡ filter first xs
all_pass first second says [] = refl
all_pass first second says (x ∷ xs) =
    elim (cases_Bool (first x)) [ inl kept ↦ rw (kept, says x kept) (ap (λ ys. x ∷ ys) (all_pass first second says xs)) | inr gone ↦ rw gone (all_pass first second says xs) ]

less_differs : (order : Ordering) → is_lt order ≡ true → is_eq order ≡ false
less_differs Less e = refl
less_differs Equal e = absurd cc
less_differs Greater e = refl

greater_differs : (order : Ordering) → is_gt order ≡ true → is_eq order ≡ false
greater_differs Less e = refl
greater_differs Equal e = absurd cc
greater_differs Greater e = refl

module _ (name : List ℕ) (marks : List Mark) where
  named_before : filter (has_name name) (filter (is_before name) marks) ≡ []
  named_before = none_pass (is_before name) (has_name name) (λ mark. less_differs (compared mark.name name)) marks

  named_after : filter (has_name name) (filter (is_after name) marks) ≡ []
  named_after = none_pass (is_after name) (has_name name) (λ mark. greater_differs (compared mark.name name)) marks

  others_before : unbound name (filter (is_before name) marks) ≡ filter (is_before name) marks
  others_before = all_pass (is_before name) (λ mark. not (has_name name mark)) (λ mark less. ap not (less_differs (compared mark.name name) less)) marks

  others_after : unbound name (filter (is_after name) marks) ≡ filter (is_after name) marks
  others_after = all_pass (is_after name) (λ mark. not (has_name name mark)) (λ mark greater. ap not (greater_differs (compared mark.name name) greater)) marks

-- ---- where the name is found

-- a list cut at a place, and what is there
cut_at : (P : Mark → Type 0) (marks : List Mark) (place : ℕ) → IsSomeAnd (slice_get marks place) P → (mark : Mark) × P mark × (slice_get marks place ≡ Some mark) × (marks ≡ take place marks ++ mark ∷ drop (suc place) marks)
cut_at P [] place there = absurd there
cut_at P (mark ∷ marks) zero there = (mark, there, refl, refl)
cut_at P (mark ∷ marks) (suc place) there =
    let rest = cut_at P marks place there in (rest.0, rest.1, rest.2, ap (λ others. mark ∷ others) rest.3)

pub place_within : (name : List ℕ) (marks : List Mark) (place : ℕ) → IsPlaceOf name marks (Ok place) → place < length marks
place_within name marks place is =
    let cut = cut_at (λ mark. mark.name ≡ name) marks place is.2 in slice_get_within marks place cut.0 cut.2

split_there : (name : List ℕ) (marks : List Mark) (place : ℕ) → IsPlaceOf name marks (Ok place) → (mark : Mark) × (mark.name ≡ name) × (slice_get marks place ≡ Some mark) × (marks ≡ filter (is_before name) marks ++ mark ∷ filter (is_after name) marks)
split_there name marks place is =
    let cut = cut_at (λ mark. mark.name ≡ name) marks place is.2 in
    (cut.0, cut.1, cut.2, cut.3 ∙ ap₂ (λ before following. before ++ cut.0 ∷ following) is.0 is.1)

pub point_there : (name : List ℕ) (marks : List Mark) (place : ℕ) → IsPlaceOf name marks (Ok place) → point_of name marks ≡ option_map (λ mark. mark.point) (slice_get marks place)
point_there name marks place is =
    let split = split_there name marks place is in
    let mark = split.0 in
    let following : filter (has_name name) (mark ∷ filter (is_after name) marks) ≡ mark ∷ [] = rw (has_own_name name mark split.1) (ap (λ others. mark ∷ others) (named_after name marks)) in
    let only : filter (has_name name) marks ≡ mark ∷ [] =
    ap (filter (has_name name)) split.3 ∙ filter-append (has_name name) (filter (is_before name) marks) (mark ∷ filter (is_after name) marks) ∙ ap₂ (λ xs ys. xs ++ ys) (named_before name marks) following in
    ap (λ kept. option_map (λ mark. mark.point) (slice_get kept 0)) only ∙ sym (ap (option_map (λ mark. mark.point)) split.2)

pub bound_there : (name : List ℕ) (point : ℕ) (marks : List Mark) (place : ℕ) → IsPlaceOf name marks (Ok place) → set marks place (record { name = name; point = point }) ≡ bound name point marks
bound_there name point marks place is =
    set_split marks place (record { name = name; point = point }) (place_within name marks place is) ∙ ap₂ (λ before following. before ++ record { name = name; point = point } ∷ following) is.0 is.1

pub unbound_there : (name : List ℕ) (marks : List Mark) (place : ℕ) → IsPlaceOf name marks (Ok place) → remove marks place ≡ unbound name marks
unbound_there name marks place is =
    let split = split_there name marks place is in
    let mark = split.0 in
    let following : unbound name (mark ∷ filter (is_after name) marks) ≡ filter (is_after name) marks = rw (has_own_name name mark split.1) (others_after name marks) in
    let left : unbound name marks ≡ filter (is_before name) marks ++ filter (is_after name) marks =
    ap (unbound name) split.3 ∙ filter-append (λ mark. not (has_name name mark)) (filter (is_before name) marks) (mark ∷ filter (is_after name) marks) ∙ ap₂ (λ xs ys. xs ++ ys) (others_before name marks) following in
    ap₂ (λ xs ys. xs ++ ys) is.0 is.1 ∙ sym left

-- ---- where it is not found

split_not_there : (name : List ℕ) (marks : List Mark) (place : ℕ) → IsPlaceOf name marks (Err place) → marks ≡ filter (is_before name) marks ++ filter (is_after name) marks
split_not_there name marks place is = sym (take-append-drop place marks) ∙ ap₂ (λ xs ys. xs ++ ys) is.0 is.1

pub point_not_there : (name : List ℕ) (marks : List Mark) (place : ℕ) → IsPlaceOf name marks (Err place) → point_of name marks ≡ None
point_not_there name marks place is =
    let none : filter (has_name name) marks ≡ [] =
    ap (filter (has_name name)) (split_not_there name marks place is) ∙ filter-append (has_name name) (filter (is_before name) marks) (filter (is_after name) marks) ∙ ap₂ (λ xs ys. xs ++ ys) (named_before name marks) (named_after name marks) in
    ap (λ kept. option_map (λ mark. mark.point) (slice_get kept 0)) none

pub bound_not_there : (name : List ℕ) (point : ℕ) (marks : List Mark) (place : ℕ) → IsPlaceOf name marks (Err place) → insert marks place (record { name = name; point = point }) ≡ bound name point marks
bound_not_there name point marks place is = ap₂ (λ before following. before ++ record { name = name; point = point } ∷ following) is.0 is.1

pub unbound_not_there : (name : List ℕ) (marks : List Mark) (place : ℕ) → IsPlaceOf name marks (Err place) → unbound name marks ≡ marks
unbound_not_there name marks place is =
    let split = split_not_there name marks place is in
    ap (unbound name) split ∙ filter-append (λ mark. not (has_name name mark)) (filter (is_before name) marks) (filter (is_after name) marks) ∙ ap₂ (λ xs ys. xs ++ ys) (others_before name marks) (others_after name marks) ∙ sym split

-- ---- what was answered

ok_from_taken : (answer : Result ℕ ℕ) (place : ℕ) → Some place ≡ result_ok answer → answer ≡ Ok place
ok_from_taken (Ok other) place e = ap Ok (sym (same_Some place other e))
ok_from_taken (Err other) place e = absurd cc

err_from_none : (answer : Result ℕ ℕ) → None ≡ result_ok answer → (place : ℕ) × (answer ≡ Err place)
err_from_none (Ok place) e = absurd cc
err_from_none (Err place) e = (place, refl)

pub place_taken : (name : List ℕ) (seen marks : List held.Mark) (answer : Result ℕ ℕ) (taken : Option ℕ) (place : ℕ) → seen ≡ marks → taken ≡ result_ok answer → taken ≡ Some place → IsPlaceOf name (map mark_of seen) answer → IsPlaceOf name (map mark_of marks) (Ok place)
place_taken name seen marks answer taken place same e some is =
    subst (IsPlaceOf name (map mark_of marks)) (ok_from_taken answer place (sym some ∙ e)) (subst (λ marks. IsPlaceOf name (map mark_of marks) answer) same is)

pub no_place_taken : (name : List ℕ) (seen marks : List held.Mark) (answer : Result ℕ ℕ) (taken : Option ℕ) → seen ≡ marks → taken ≡ result_ok answer → taken ≡ None → IsPlaceOf name (map mark_of seen) answer → (place : ℕ) × IsPlaceOf name (map mark_of marks) (Err place)
no_place_taken name seen marks answer taken same e none is =
    let err = err_from_none answer (sym none ∙ e) in
    (err.0, subst (IsPlaceOf name (map mark_of marks)) err.1 (subst (λ marks. IsPlaceOf name (map mark_of marks) answer) same is))

-- ---- the mark that is held there

pub held_within : (name : List ℕ) (marks : List held.Mark) (place : ℕ) → IsPlaceOf name (map mark_of marks) (Ok place) → place < length marks
held_within name marks place is =
    let within = place_within name (map mark_of marks) place is in
    let long = length-map marks mark_of in
    omega arith

held_there : (name : List ℕ) (marks : List held.Mark) (place : ℕ) (other : held.Mark) → IsPlaceOf name (map mark_of marks) (Ok place) → slice_get (map mark_of marks) place ≡ Some (mark_of (get_or marks place other))
held_there name marks place other is = slice_get-map mark_of marks place ∙ ap (option_map mark_of) (slice_get-get_or marks place other (held_within name marks place is))

pub held_point : (name : List ℕ) (marks : List held.Mark) (place : ℕ) (other : held.Mark) → IsPlaceOf name (map mark_of marks) (Ok place) → point_of name (map mark_of marks) ≡ Some (get_or marks place other).point
held_point name marks place other is = point_there name (map mark_of marks) place is ∙ ap (option_map (λ mark. mark.point)) (held_there name marks place other is)

pub held_name : (name : List ℕ) (marks : List held.Mark) (place : ℕ) (other : held.Mark) → IsPlaceOf name (map mark_of marks) (Ok place) → (get_or marks place other).name.items ≡ name
held_name name marks place other is = subst (λ at. IsSomeAnd at (λ mark. mark.name ≡ name)) (held_there name marks place other is) is.2

-- ---- edits of a list that is mapped

pub map-insert : {A B : Type 0} (f : A → B) (xs : List A) (place : ℕ) (x : A) → map f (insert xs place x) ≡ insert (map f xs) place (f x)
map-insert f xs place x = map-append f (take place xs) (x ∷ drop place xs) ∙ ap₂ (λ front back. front ++ f x ∷ back) (sym (take-map f place xs)) (sym (drop-map f place xs))

pub map-remove : {A B : Type 0} (f : A → B) (xs : List A) (place : ℕ) → map f (remove xs place) ≡ remove (map f xs) place
map-remove f xs place = map-append f (take place xs) (drop (suc place) xs) ∙ ap₂ (λ front back. front ++ back) (sym (take-map f place xs)) (sym (drop-map f (suc place) xs))

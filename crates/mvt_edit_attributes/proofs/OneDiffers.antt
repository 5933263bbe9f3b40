-- If at most one pair has a key, at most one tags field changes as these pairs get another value; and the splices of
-- fates at most one of which changes.
use Rattle.std.proofs.Common.{◌≡◌, ℕ, ◌+◌, ◌≤◌, ◌==◌, Bool, true, false, not, cond, Option, Some, None, is_some, List, [], ◌∷◌, ◌++◌, length, length-append, drop, map, filter, option_map, refl, sym, ap, ◌∙◌, inl, inr, arith}
use Rattle.std.proofs.lemmas.Bool.{cases_Bool, eq-eqb}
use Rattle.std.proofs.lemmas.List.Elements.{filter-append}
use Rattle.std.proofs.lemmas.Simd.{map-map}
use Rattle.std.specs.List.{cons_option, flat_map, list_all, list_any, zip}
use Rattle.std.specs.Option.{option_and_then}
use Rattle.mvt_document.specs.Plain.{Field, Number}
use Rattle.mvt_renumber.specs.Fates.{changes, field_fate}
use Rattle.mvt_messages.specs.Numbers.{Placed, all_good, and_more, numbers}
use Rattle.mvt_renumber.specs.Renumbering.{field_numbers, is_changed}
use Rattle.mvt_renumber.specs.declared.fate.Fate.{Fate}
use Rattle.mvt_renumber.specs.declared.fate.Fate.TheVariants.{Stays, Goes, Becomes}
use Rattle.mvt_renumber.proofs.Reread.{read_of_fields}
use Rattle.mvt_messages.specs.Attributes.{if_pairs, in_pairs, is_pair, pairs_in}
use Rattle.mvt_edit_steps.specs.Decided.{field_fates}
use Rattle.mvt_edit_steps.specs.Fates.{splices_from}
use Rattle.mvt_edit_steps.proofs.FieldsLeft.{changes_one}
use Rattle.mvt_edit_attributes.specs.Attribute.{run_for}
use Rattle.mvt_meaning.specs.Tagging.{revalued}
use Rattle.mvt_meaning.proofs.Found.{filtered_skip}
use Rattle.mvt_edit_steps.proofs.Deciding.{counted_first}

pub some_mapped : {A B : Type 0} (f : A → B) (found : Option A) → is_some (option_map f found) ≡ is_some found
some_mapped f None = refl
some_mapped f (Some x) = refl

-- ---- fates at most one of which changes

none_change : (at : ℕ) (fates : List (Fate Field)) → length (filter changes fates) ≤ 0 → splices_from at fates ≡ []
none_change at [] few = refl
none_change at (Stays ∷ fates) few = none_change (at + 1) fates few
none_change at (Goes ∷ fates) few = absurd (omega arith)
none_change at (Becomes field ∷ fates) few = absurd (omega arith)

-- the splice of the first that changes is the only one
pub only_run : (at : ℕ) (fate : Fate Field) (fates : List (Fate Field)) → length (filter changes (fate ∷ fates)) ≤ 1 → is_some (run_for at fate) ≡ true → splices_from at (fate ∷ fates) ≡ cons_option (run_for at fate) []
only_run at Stays fates few some = absurd cc
only_run at Goes fates few some = let none = none_change at fates (omega arith) in rw none refl
only_run at (Becomes field) fates few some = let none = none_change (at + 1) fates (omega arith) in rw none refl

-- before it nothing changes
pub no_run : (at : ℕ) (fate : Fate Field) (fates : List (Fate Field)) → is_some (run_for at fate) ≡ false → (splices_from at (fate ∷ fates) ≡ splices_from (at + 1) fates) × (filter changes (fate ∷ fates) ≡ filter changes fates)
no_run at Stays fates none = (refl, refl)
no_run at Goes fates none = absurd cc
no_run at (Becomes field) fates none = absurd cc

-- ---- numbers that change

any_counted : {A : Type 0} (test : A → Bool) (xs : List A) → list_any test xs ≡ true → 1 ≤ length (filter test xs)
any_counted test [] some = absurd cc
any_counted test (x ∷ xs) some =
    elim (cases_Bool (test x)) [ inl pass ↦ rw pass (omega arith) | inr skip ↦ rw skip (any_counted test xs (rw skip at some)) ]

one_more : {A : Type 0} (test : A → Bool) (x : A) (xs : List A) → length (filter test (x ∷ xs)) ≤ 1 + length (filter test xs)
one_more test x xs = elim (cases_Bool (test x)) [ inl pass ↦ rw pass (omega arith) | inr skip ↦ rw skip (omega arith) ]

zip_none : {A B : Type 0} (xs : List A) (zs : List B) → zs ≡ [] → zip xs zs ≡ []
zip_none [] zs none = refl
zip_none (x ∷ xs) [] none = refl
zip_none (x ∷ xs) (z ∷ zs) none = absurd cc

zip_both : {A B : Type 0} (xs ys : List A) (zs : List B) → zip (xs ++ ys) zs ≡ zip xs zs ++ zip ys (drop (length xs) zs)
zip_both [] ys zs = refl
zip_both (x ∷ xs) ys [] = sym (zip_none ys [] refl)
zip_both (x ∷ xs) ys (z ∷ zs) = ap (λ more. (x, z) ∷ more) (zip_both xs ys zs)

-- no more fields change than numbers
few_fields : (decisions : List (Option ℕ)) (fields : List Field) → length (filter changes (field_fates 2 decisions fields)) ≤ length (filter is_changed (zip (flat_map (field_numbers 2) fields) decisions))
few_fields decisions [] = omega arith
few_fields decisions (field ∷ more) =
    let own = field_numbers 2 field in
    let others = flat_map (field_numbers 2) more in
    let following = drop (length own) decisions in
    let rest = few_fields following more in
    let here = changes_one 2 decisions field in
    let split = ap (λ list. length (filter is_changed list)) (zip_both own others decisions) ∙ ap length (filter-append is_changed (zip own decisions) (zip others following)) ∙ length-append (filter is_changed (zip own decisions)) (filter is_changed (zip others following)) in
    elim (cases_Bool (changes (field_fate 2 decisions field))) [
      | inl out ↦ (let counted = any_counted is_changed (zip own decisions) (sym here ∙ out) in rw out (omega (arith, split, rest, counted)))
      | inr stays ↦ rw stays (omega (arith, split, rest))
    ]

-- one that does not count, and one that counts at most if another does
two_more : {A : Type 0} (test : A → Bool) (x y : A) (others : List A) (counts : Bool) (most : ℕ) → test x ≡ false → (counts ≡ false → test y ≡ false) → length (filter test others) ≤ most → length (filter test (x ∷ y ∷ others)) ≤ cond counts 1 0 + most
two_more test x y others true most skip second few = omega (arith, ap length (filtered_skip test x (y ∷ others) skip), one_more test y others, few)
two_more test x y others false most skip second few = omega (arith, ap length (filtered_skip test x (y ∷ others) skip), ap length (filtered_skip test y others (second refl)), few)

abbrev flat : ℕ × ℕ → List ℕ
flat pair = pair.0 ∷ pair.1 ∷ []

same_value : (value : ℕ) (n : Number) → n.value ≡ value → not (value == n.value) ≡ false
same_value value n is = ap not (eq-eqb value n.value (sym is))

-- no more numbers change than pairs are selected
few_numbers : (selects : ℕ → Bool) (value : ℕ) (list : List Number) (pairs : List (ℕ × ℕ)) → map (λ (n : Number). n.value) list ≡ flat_map flat pairs → length (filter is_changed (zip list (revalued selects value pairs))) ≤ length (filter (λ pair. selects pair.0) pairs)
few_numbers selects value [] [] same = omega arith
few_numbers selects value (n ∷ list) [] same = absurd cc
few_numbers selects value [] (pair ∷ pairs) same = absurd cc
few_numbers selects value (n ∷ []) (pair ∷ pairs) same = absurd cc
few_numbers selects value (n ∷ m ∷ list) (pair ∷ pairs) same =
    let key : n.value ≡ pair.0 = cc in
    let old : m.value ≡ pair.1 = cc in
    let rest : map (λ (n : Number). n.value) list ≡ flat_map flat pairs = cc in
    let more = few_numbers selects value list pairs rest in
    let others = zip list (revalued selects value pairs) in
    let given : Number × Option ℕ = (m, Some (cond (selects pair.0) value pair.1)) in
    let kept = λ (other : selects pair.0 ≡ false). ap (λ v. not (v == m.value)) (ap (λ b. cond b value pair.1) other) ∙ same_value pair.1 m old in
    omega (arith, two_more is_changed (n, Some pair.0) given others (selects pair.0) (length (filter (λ pair. selects pair.0) pairs)) (same_value pair.0 n key) kept more, counted_first (λ (pair : ℕ × ℕ). selects pair.0) pair pairs)

-- ---- the numbers from which pairs are read

more_values : (key value : ℕ) (more : List ℕ) (found : Option (List (ℕ × ℕ))) (pairs : List (ℕ × ℕ)) → and_more (key, value) found ≡ Some pairs → ((rest : List (ℕ × ℕ)) → found ≡ Some rest → more ≡ flat_map flat rest) → key ∷ value ∷ more ≡ flat_map flat pairs
more_values key value more None pairs is then = absurd cc
more_values key value more (Some rest) pairs is then =
    let same : (key, value) ∷ rest ≡ pairs = cc in ap (λ list. key ∷ value ∷ list) (then rest refl) ∙ ap (flat_map flat) same

values_paired : (values : List ℕ) (pairs : List (ℕ × ℕ)) → in_pairs values ≡ Some pairs → values ≡ flat_map flat pairs
values_paired [] pairs is = let none : [] ≡ pairs = cc in ap (flat_map flat) none
values_paired (key ∷ []) pairs is = absurd cc
values_paired (key ∷ value ∷ more) pairs is = more_values key value more (in_pairs more) pairs is (λ rest found. values_paired more rest found)

found_pairs : (key_count value_count : ℕ) (found : Option (List (ℕ × ℕ))) (pairs : List (ℕ × ℕ)) → option_and_then (if_pairs key_count value_count) found ≡ Some pairs → found ≡ Some pairs
found_pairs key_count value_count None pairs is = absurd cc
found_pairs key_count value_count (Some found) pairs is =
    elim (cases_Bool (list_all (is_pair key_count value_count) found)) [ inl all ↦ rw all at is | inr some ↦ absurd (let none = rw some at is in cc) ]

read_values : (found : Option (List Placed)) (key_count value_count : ℕ) (pairs : List (ℕ × ℕ)) → option_and_then (if_pairs key_count value_count) (option_and_then in_pairs (option_map (map (λ (p : Placed). p.number.value)) found)) ≡ Some pairs → (list : List Number) × (option_map (map (λ (p : Placed). p.number)) found ≡ Some list) × (map (λ (n : Number). n.value) list ≡ flat_map flat pairs)
read_values None key_count value_count pairs is = absurd cc
read_values (Some placed) key_count value_count pairs is = (
  map (λ (p : Placed). p.number) placed,
  refl,
  map-map (λ (n : Number). n.value) (λ (p : Placed). p.number) placed ∙ values_paired (map (λ (p : Placed). p.number.value) placed) pairs (found_pairs key_count value_count (in_pairs (map (λ (p : Placed). p.number.value) placed)) pairs is),
)

-- if at most one pair is selected, at most one field changes
pub one_differs : (selects : ℕ → Bool) (value key_count value_count : ℕ) (fields : List Field) (pairs : List (ℕ × ℕ)) → pairs_in key_count value_count (numbers 2 fields) ≡ Some pairs → length (filter (λ pair. selects pair.0) pairs) ≤ 1 → length (filter changes (field_fates 2 (revalued selects value pairs) fields)) ≤ 1
one_differs selects value key_count value_count fields pairs is few =
    let read = read_values (all_good (numbers 2 fields)) key_count value_count pairs is in
    let all = read_of_fields 2 fields read.0 read.1 in
    let same = ap (λ list. length (filter is_changed (zip list (revalued selects value pairs)))) all in
    omega (arith, few, few_fields (revalued selects value pairs) fields, same, few_numbers selects value read.0 pairs read.2)

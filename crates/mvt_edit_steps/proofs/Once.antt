-- A new item in place of the first that passes: the fates as far as a walk has come, and what the splices make of the
-- list.
use Rattle.std.proofs.Common.{◌≡◌, ℕ, ◌+◌, ◌<◌, ◌≤◌, Bool, true, false, not, cond, Option, Some, None, List, [], ◌∷◌, ◌++◌, length, map, take, filter, option_map, get_or, refl, sym, ap, ◌∙◌, subst, inl, inr, arith}
use Rattle.mvt_document.proofs.Lists.{none_filtered}
use Rattle.std.proofs.lemmas.Bool.{cases_Bool}
use Rattle.std.proofs.lemmas.List.{append-nil, map-append}
use Rattle.std.specs.List.{AllZip, flat_map, list_any}
use Rattle.mvt_renumber.specs.Fates.{changes, fate_seen, left_of_fate}
use Rattle.mvt_renumber.specs.declared.fate.Fate.{Fate}
use Rattle.mvt_meaning.specs.Ordinals.{put_once}
use Rattle.mvt_edit_steps.specs.Fates.{Splice, and_splices, seen, splices_from, splices_of}
use Rattle.mvt_edit_steps.specs.Once.{at_end, left_once, once_fate, once_fates, once_splices}
use Rattle.mvt_edit_steps.proofs.CarriedOut.{AreThere, carries_beside, new_in, put_all, spliced_all, taken_all}
use Rattle.mvt_edit_steps.proofs.Following.{one_more_answered}
use Rattle.mvt_edit_steps.proofs.Planned.{splices_seen}
use Rattle.mvt_edit_steps.proofs.PutLast.{end_spliced}

-- ---- as far as a walk has come

-- each of these items was picked or not, these are the fates, and this is left of the new one
pub record Once {T : Type 0} (answers : T → Bool → Type 0) (items : List T) (new left : Option T) (fates : List (Fate T)) : Type 0 where
  pub picked : List Bool
  pub answered : AllZip answers items picked
  pub fates_so : fates ≡ once_fates picked new
  pub left_so : left ≡ left_once picked new

fates_more : {T : Type 0} (picked : List Bool) (is : Bool) (new : Option T) → once_fates (picked ++ is ∷ []) new ≡ once_fates picked new ++ once_fate is (left_once picked new) ∷ []
fates_more [] is new = refl
fates_more (first ∷ picked) is new = ap (λ fates. once_fate first new ∷ fates) (fates_more picked is (cond first None new))

left_more : {T : Type 0} (picked : List Bool) (is : Bool) (new : Option T) → left_once (picked ++ is ∷ []) new ≡ cond is None (left_once picked new)
left_more [] is new = refl
left_more (first ∷ picked) is new = left_more picked is (cond first None new)

pub once_more : {T : Type 0} (answers : T → Bool → Type 0) (items : List T) (index : ℕ) (x : T) (is : Bool) (new left following : Option T) (fates : List (Fate T)) (fate : Fate T) → index < length items → x ≡ get_or items index x → Once answers (take index items) new left fates → answers x is → fate ≡ once_fate is left → following ≡ cond is None left → Once answers (take (index + 1) items) new following (fates ++ fate ∷ [])
once_more answers items index x is new left following fates fate within at so_far says becomes rest = record {
  picked = so_far.picked ++ is ∷ [];
  answered = one_more_answered answers items index x so_far.picked is within at so_far.answered says;
  fates_so =
      ap (λ all. all ++ fate ∷ []) so_far.fates_so
      ∙ ap (λ next. once_fates so_far.picked new ++ next ∷ []) (becomes ∙ ap (once_fate is) so_far.left_so)
      ∙ sym (fates_more so_far.picked is new);
  left_so = rest ∙ ap (cond is None) so_far.left_so ∙ sym (left_more so_far.picked is new);
}

-- ---- as the program sees them

once_seen : {T A : Type 0} (view : T → A) (picked : Bool) (new : Option T) → fate_seen view (once_fate picked new) ≡ once_fate picked (option_map view new)
once_seen view false new = refl
once_seen view true None = refl
once_seen view true (Some item) = refl

rest_seen : {T A : Type 0} (view : T → A) (picked : Bool) (new : Option T) → option_map view (cond picked None new) ≡ cond picked None (option_map view new)
rest_seen view true new = refl
rest_seen view false new = refl

fates_seen : {T A : Type 0} (view : T → A) (picked : List Bool) (new : Option T) → map (fate_seen view) (once_fates picked new) ≡ once_fates picked (option_map view new)
fates_seen view [] new = refl
fates_seen view (is ∷ picked) new =
    ap (λ fate. fate ∷ map (fate_seen view) (once_fates picked (cond is None new))) (once_seen view is new)
    ∙ ap (λ fates. once_fate is (option_map view new) ∷ fates) (fates_seen view picked (cond is None new) ∙ ap (once_fates picked) (rest_seen view is new))

left_seen : {T A : Type 0} (view : T → A) (picked : List Bool) (new : Option T) → option_map view (left_once picked new) ≡ left_once picked (option_map view new)
left_seen view [] new = refl
left_seen view (is ∷ picked) new = left_seen view picked (cond is None new) ∙ ap (left_once picked) (rest_seen view is new)

end_seen : {T A : Type 0} (view : T → A) (left : Option T) (end : ℕ) → map (seen view) (at_end left end) ≡ at_end (option_map view left) end
end_seen view None end = refl
end_seen view (Some item) end = refl

-- the splices of the program are those of the plain values
pub once_splices_seen : {T A : Type 0} (view : T → A) (picked : List Bool) (new : T) (end : ℕ) → map (seen view) (once_splices picked new end) ≡ once_splices picked (view new) end
once_splices_seen view picked new end =
    map-append (seen view) (splices_of (once_fates picked (Some new))) (at_end (left_once picked (Some new)) end)
    ∙ ap (λ first. first ++ map (seen view) (at_end (left_once picked (Some new)) end)) (splices_seen view 0 (once_fates picked (Some new)) ∙ ap splices_of (fates_seen view picked (Some new)))
    ∙ ap (λ last. splices_of (once_fates picked (Some (view new))) ++ last) (end_seen view (left_once picked (Some new)) end ∙ ap (λ left. at_end left end) (left_seen view picked (Some new)))

-- each item that was picked passes
pub picked_seen : {T A : Type 0} (view : T → A) (passes : A → Bool) (answers : T → Bool → Type 0) → ((x : T) (is : Bool) → answers x is → is ≡ passes (view x)) → (xs : List T) (picked : List Bool) → AllZip answers xs picked → picked ≡ map passes (map view xs)
picked_seen view passes answers each [] [] all = refl
picked_seen view passes answers each [] (is ∷ picked) all = absurd all
picked_seen view passes answers each (x ∷ xs) [] all = absurd all
picked_seen view passes answers each (x ∷ xs) (is ∷ picked) all = ap (λ first. first ∷ picked) (each x is all.0) ∙ ap (λ more. passes (view x) ∷ more) (picked_seen view passes answers each xs picked all.1)

-- ---- one more item at the end that is not picked

skipped_from : {A : Type 0} (n : ℕ) (picked : List Bool) (new : Option A) → splices_from n (once_fates (picked ++ false ∷ []) new) ≡ splices_from n (once_fates picked new)
skipped_from n [] new = refl
skipped_from n (false ∷ picked) new = skipped_from (n + 1) picked new
skipped_from n (true ∷ picked) None = ap (and_splices (record { index = n; taken = 1; put = [] })) (skipped_from n picked None)
skipped_from n (true ∷ picked) (Some item) = ap (and_splices (record { index = n; taken = 1; put = item ∷ [] })) (skipped_from (n + 1) picked None)

pub one_skipped : {A : Type 0} (picked : List Bool) (new : A) (end : ℕ) → once_splices (picked ++ false ∷ []) new end ≡ once_splices picked new end
one_skipped picked new end =
    ap (λ splices. splices ++ at_end (left_once (picked ++ false ∷ []) (Some new)) end) (skipped_from 0 picked (Some new))
    ∙ ap (λ left. splices_of (once_fates picked (Some new)) ++ at_end left end) (left_more picked false (Some new))

-- ---- what is made of the list

module _ {A : Type 0} (passes : A → Bool) where
  -- the items, each with what becomes of it
  abbrev planned : Option A → List A → List (Fate A × A)
  planned new [] = []
  planned new (x ∷ xs) = (once_fate (passes x) new, x) ∷ planned (cond (passes x) None new) xs

  abbrev fate : Fate A × A → Fate A
  fate p = p.0

  abbrev item : Fate A × A → A
  item p = p.1

  fates_planned : (new : Option A) (xs : List A) → map fate (planned new xs) ≡ once_fates (map passes xs) new
  fates_planned new [] = refl
  fates_planned new (x ∷ xs) = ap (λ fates. once_fate (passes x) new ∷ fates) (fates_planned (cond (passes x) None new) xs)

  items_planned : (new : Option A) (xs : List A) → map item (planned new xs) ≡ xs
  items_planned new [] = refl
  items_planned new (x ∷ xs) = ap (λ ys. x ∷ ys) (items_planned (cond (passes x) None new) xs)

  picked_changes : (picked : Bool) (new : Option A) → changes (once_fate picked new) ≡ picked
  picked_changes false new = refl
  picked_changes true None = refl
  picked_changes true (Some item) = refl

  taken_planned : (new : Option A) (xs : List A) → map item (filter (λ p. changes (fate p)) (planned new xs)) ≡ filter passes xs
  taken_planned new [] = refl
  taken_planned new (x ∷ xs) =
      elim (cases_Bool (passes x)) [
        | inl pass ↦ (let changed = picked_changes true new in rw (pass, changed) (ap (λ ys. x ∷ ys) (taken_planned None xs)))
        | inr skip ↦ rw skip (taken_planned new xs)
      ]

  none_left : (xs : List A) → flat_map (λ p. left_of_fate (λ y. y) (item p) (fate p)) (planned None xs) ≡ filter (λ y. not (passes y)) xs
  none_left [] = refl
  none_left (x ∷ xs) = elim (cases_Bool (passes x)) [ inl pass ↦ rw pass (none_left xs) | inr skip ↦ rw skip (ap (λ ys. x ∷ ys) (none_left xs)) ]

  none_put : (xs : List A) → flat_map (λ p. new_in (fate p)) (planned None xs) ≡ []
  none_put [] = refl
  none_put (x ∷ xs) = elim (cases_Bool (passes x)) [ inl pass ↦ rw pass (none_put xs) | inr skip ↦ rw skip (none_put xs) ]

  none_after : (xs : List A) → left_once {A = A} (map passes xs) None ≡ None
  none_after [] = refl
  none_after (x ∷ xs) = elim (cases_Bool (passes x)) [ inl pass ↦ rw pass (none_after xs) | inr skip ↦ rw skip (none_after xs) ]

  module _ (new : A) where
    -- where one passes
    one_left : (xs : List A) → list_any passes xs ≡ true → flat_map (λ p. left_of_fate (λ y. y) (item p) (fate p)) (planned (Some new) xs) ≡ put_once passes new xs
    one_left [] some = absurd cc
    one_left (x ∷ xs) some =
        elim (cases_Bool (passes x)) [
          | inl pass ↦ rw pass (ap (λ ys. new ∷ ys) (none_left xs))
          | inr skip ↦ rw skip (ap (λ ys. x ∷ ys) (one_left xs (rw skip at some)))
        ]

    one_put : (xs : List A) → list_any passes xs ≡ true → flat_map (λ p. new_in (fate p)) (planned (Some new) xs) ≡ new ∷ []
    one_put [] some = absurd cc
    one_put (x ∷ xs) some = elim (cases_Bool (passes x)) [ inl pass ↦ rw pass (ap (λ ys. new ∷ ys) (none_put xs)) | inr skip ↦ rw skip (one_put xs (rw skip at some)) ]

    one_after : (xs : List A) → list_any passes xs ≡ true → left_once (map passes xs) (Some new) ≡ None
    one_after [] some = absurd cc
    one_after (x ∷ xs) some = elim (cases_Bool (passes x)) [ inl pass ↦ rw pass (none_after xs) | inr skip ↦ rw skip (one_after xs (rw skip at some)) ]

    -- where none does
    all_stay : (n : ℕ) (xs : List A) → list_any passes xs ≡ false → splices_from n (once_fates (map passes xs) (Some new)) ≡ []
    all_stay n [] none = refl
    all_stay n (x ∷ xs) none = elim (cases_Bool (passes x)) [ inl pass ↦ absurd (let some = rw pass at none in cc) | inr skip ↦ rw skip (all_stay (n + 1) xs (rw skip at none)) ]

    new_after : (xs : List A) → list_any passes xs ≡ false → left_once (map passes xs) (Some new) ≡ Some new
    new_after [] none = refl
    new_after (x ∷ xs) none = elim (cases_Bool (passes x)) [ inl pass ↦ absurd (let some = rw pass at none in cc) | inr skip ↦ rw skip (new_after xs (rw skip at none)) ]

    new_last : (xs : List A) → list_any passes xs ≡ false → put_once passes new xs ≡ xs ++ new ∷ []
    new_last [] none = refl
    new_last (x ∷ xs) none = elim (cases_Bool (passes x)) [ inl pass ↦ absurd (let some = rw pass at none in cc) | inr skip ↦ rw skip (ap (λ ys. x ∷ ys) (new_last xs (rw skip at none))) ]

-- the splices can be carried out on the list and turn it into one with the new item in place of all that pass; they
-- take the items that pass, and put the new one
pub record PutsOnce {A : Type 0} (passes : A → Bool) (new : A) (items : List A) (splices : List (Splice A)) : Type 0 where
  pub there : AreThere splices items
  pub leaves : spliced_all splices items ≡ put_once passes new items
  pub takes : taken_all splices items ≡ filter passes items
  pub puts : put_all splices ≡ new ∷ []
  pub few : length splices ≤ length (filter passes items) + 1

puts_in_place : {A : Type 0} (passes : A → Bool) (new : A) (items : List A) → list_any passes items ≡ true → PutsOnce passes new items (splices_of (once_fates (map passes items) (Some new)))
puts_in_place passes new items some =
    let ps = planned passes (Some new) items in
    let all = carries_beside (item passes) (fate passes) ps in
    let fates = fates_planned passes (Some new) items in
    let same = items_planned passes (Some new) items in
    let taken = taken_planned passes (Some new) items in
    let few = all.few in
    subst (λ fates. PutsOnce passes new items (splices_of fates)) fates
    (subst (λ list. PutsOnce passes new list (splices_of (map (fate passes) ps))) same (record {
      there = all.there;
      leaves = all.leaves ∙ one_left passes new items some ∙ ap (put_once passes new) (sym same);
      takes = all.takes ∙ taken ∙ ap (filter passes) (sym same);
      puts = all.puts ∙ one_put passes new items some;
      few = omega (arith, few, ap length (taken ∙ ap (filter passes) (sym same)));
    }))

pub puts_once : {A : Type 0} (passes : A → Bool) (new : A) (items : List A) → PutsOnce passes new items (once_splices (map passes items) new (length items))
puts_once passes new items =
    let fates = once_fates (map passes items) (Some new) in
    elim (cases_Bool (list_any passes items)) [
      | inl some ↦ (
          let none = one_after passes new items some in
          subst (PutsOnce passes new items) (sym (ap (λ left. splices_of fates ++ at_end left (length items)) none ∙ append-nil (splices_of fates))) (puts_in_place passes new items some)
          )
      | inr none ↦ (
          let stay = all_stay passes new 0 items none in
          let left = new_after passes new items none in
          let gone = none_filtered passes items none in
          let alone : List (Splice _) = record { index = length items; taken = 0; put = new ∷ [] } ∷ [] in
          subst (PutsOnce passes new items) (sym (ap (λ splices. splices ++ at_end (left_once (map passes items) (Some new)) (length items)) stay ∙ ap (λ left. at_end left (length items)) left)) (record {
            there = (omega arith, tt);
            leaves = end_spliced items new ∙ sym (new_last passes new items none);
            takes = sym gone;
            puts = refl;
            few = omega arith;
          })
          )
    ]

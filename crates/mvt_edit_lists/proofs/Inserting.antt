-- The place of a new item among those that pass.
use Rattle.std.proofs.Common.{◌≡◌, ℕ, suc, ◌+◌, ◌-◌, ◌<◌, ◌≤◌, nat_lt, Bool, true, false, Some, List, [], ◌∷◌, ◌++◌, length, take, drop, slice_get, append_assoc, refl, sym, ap, ◌∙◌, subst, inl, inr, arith}
use Rattle.std.proofs.lemmas.Bool.{cases_Bool, le-ltb, lt-ltb, or_from, or_left, or_right}
use Rattle.std.proofs.lemmas.List.{append-nil, length-append}
use Rattle.std.specs.List.{list_any}
use Rattle.mvt_document.specs.Splicing.{splice}
use Rattle.mvt_meaning.specs.Ordinals.{count, positions_of}
use Rattle.mvt_edit_lists.proofs.Nth.{apart_from, count_append, count_pass, count_skip, from_nth_at}
use Rattle.mvt_edit_lists.specs.Placing.{IsPlaceFor}
use Rattle.mvt_edit_lists.proofs.Moving.{splice_in}

-- ---- whether some pass

any_counted : {A : Type 0} (passes : A → Bool) (items : List A) → 0 < count passes items → list_any passes items ≡ true
any_counted passes [] some = absurd (omega arith)
any_counted passes (x ∷ xs) some =
    elim (cases_Bool (passes x)) [
      | inl counts ↦ or_left (passes x) (list_any passes xs) counts
      | inr skips ↦ or_right (passes x) (list_any passes xs) (any_counted passes xs (omega (arith, some, count_skip passes x xs skips)))
    ]

none_counted : {A : Type 0} (passes : A → Bool) (items : List A) → count passes items ≡ 0 → list_any passes items ≡ false
none_counted passes [] none = refl
none_counted passes (x ∷ xs) none =
    elim (cases_Bool (passes x)) [
      | inl counts ↦ absurd (omega (arith, none, count_pass passes x xs counts))
      | inr skips ↦ or_from (passes x) (list_any passes xs) skips (none_counted passes xs (sym (count_skip passes x xs skips) ∙ none))
    ]

-- ---- where the new item goes

-- before the item that has the ordinal
before_item : {A : Type 0} (passes : A → Bool) (ordinal : ℕ) (front : List A) (item : A) (back : List A) → count passes front ≡ ordinal → passes item ≡ true → IsPlaceFor passes ordinal (front ++ item ∷ back) (length front)
before_item passes ordinal front item back counted pass =
    let all = count_append passes front (item ∷ back) in
    let one = count_pass passes item back pass in
    let few : ordinal < count passes (front ++ item ∷ back) = omega (arith, all, one, counted) in
    let inside : nat_lt ordinal (count passes (front ++ item ∷ back)) ≡ true = lt-ltb ordinal (count passes (front ++ item ∷ back)) few in
    record {
      few = omega (arith, few);
      within = omega (arith, length-append front (item ∷ back));
      inserts = λ new.
          rw inside (from_nth_at passes (λ rest. new ∷ rest) ordinal front item back counted pass ∙ sym (splice_in (length front) front new (item ∷ back) refl));
    }

-- after the last that passes
after_item : {A : Type 0} (passes : A → Bool) (ordinal : ℕ) (front : List A) (item : A) (back : List A) → suc (count passes front) ≡ ordinal → passes item ≡ true → count passes (front ++ item ∷ back) ≡ ordinal → IsPlaceFor passes ordinal (front ++ item ∷ back) (suc (length front))
after_item passes ordinal front item back counted pass all =
    let inside : nat_lt ordinal (count passes (front ++ item ∷ back)) ≡ false = le-ltb ordinal (count passes (front ++ item ∷ back)) (omega (arith, all)) in
    let some : list_any passes (front ++ item ∷ back) ≡ true = any_counted passes (front ++ item ∷ back) (omega (arith, all, counted)) in
    let before : count passes front ≡ count passes (front ++ item ∷ back) - 1 = omega (arith, all, counted) in
    let long : length (front ++ item ∷ []) ≡ suc (length front) = omega (arith, length-append front (item ∷ [])) in
    record {
      few = omega (arith, all);
      within = omega (arith, length-append front (item ∷ back));
      inserts = λ new.
          rw (inside, some) (
          from_nth_at passes (λ rest. take 1 rest ++ new ∷ drop 1 rest) (count passes (front ++ item ∷ back) - 1) front item back before pass
          ∙ sym (append_assoc front (item ∷ []) (new ∷ back))
          ∙ sym (splice_in (suc (length front)) (front ++ item ∷ []) new back long)
          ∙ ap (splice (suc (length front)) 0 (new ∷ [])) (append_assoc front (item ∷ []) back)
          );
    }

-- before the item that has the ordinal, by its position
pub before_nth : {A : Type 0} (passes : A → Bool) (ordinal place : ℕ) (items : List A) → slice_get (positions_of passes items) ordinal ≡ Some place → IsPlaceFor passes ordinal items place
before_nth passes ordinal place items there =
    let found = apart_from passes 0 items ordinal place there in
    let a = found.0 in
    let here : length a.front ≡ place = let at = found.1 in omega arith in
    subst (λ place. IsPlaceFor passes ordinal items place) here (subst (λ xs. IsPlaceFor passes ordinal xs (length a.front)) (sym a.joined) (before_item passes ordinal a.front a.item a.back a.ordinal_is a.counts))

-- right after the item of the ordinal before, by its position, where no more pass
pub after_nth : {A : Type 0} (passes : A → Bool) (ordinal last : ℕ) (items : List A) → 0 < ordinal → slice_get (positions_of passes items) (ordinal - 1) ≡ Some last → count passes items ≤ ordinal → IsPlaceFor passes ordinal items (last + 1)
after_nth passes ordinal last items some there no_more =
    let found = apart_from passes 0 items (ordinal - 1) last there in
    let a = found.0 in
    let here : suc (length a.front) ≡ last + 1 = let at = found.1 in omega arith in
    let before : suc (count passes a.front) ≡ ordinal = omega (arith, some, a.ordinal_is) in
    let one = count_pass passes a.item a.back a.counts in
    let all : count passes (a.front ++ a.item ∷ a.back) ≡ ordinal = omega (arith, no_more, ap (count passes) a.joined, count_append passes a.front (a.item ∷ a.back), one, before) in
    subst (λ place. IsPlaceFor passes ordinal items place) here (subst (λ xs. IsPlaceFor passes ordinal xs (suc (length a.front))) (sym a.joined) (after_item passes ordinal a.front a.item a.back before a.counts all))

-- at the end, where none passes
pub at_end : {A : Type 0} (passes : A → Bool) (items : List A) → count passes items ≡ 0 → IsPlaceFor passes 0 items (length items)
at_end passes items none =
    let inside : nat_lt 0 (count passes items) ≡ false = le-ltb 0 (count passes items) (omega arith) in
    let no : list_any passes items ≡ false = none_counted passes items none in
    record {
      few = omega arith;
      within = omega arith;
      inserts = λ new.
          rw (inside, no) (sym (splice_in (length items) items new [] refl) ∙ ap (splice (length items) 0 (new ∷ [])) (append-nil items));
    }

-- A list around the item of an ordinal, and what the changes of Ordinals make of it.
use Rattle.std.proofs.Common.{◌≡◌, ◌≢◌, ℕ, zero, suc, ◌+◌, ◌-◌, ◌<◌, ◌≤◌, Bool, true, false, ◌||◌, ◌==◌, is_some, Option, Some, None, option_map, List, [], ◌∷◌, ◌++◌, length, take, drop, filter, slice_get, nat_lt, refl, sym, ap, ◌∙◌, inl, inr, append_assoc, subst, arith}
use Rattle.std.proofs.lemmas.Bool.{cases_Bool, cases_lt, cases_order, lt-ltb, le-ltb}
use Rattle.std.proofs.lemmas.Bool.Decides.{nat_tests}
use Rattle.std.proofs.lemmas.List.{append-nil, length_push}
use Rattle.std.proofs.lemmas.List.Elements.{filter_map-append, filter-append}
use Rattle.std.proofs.lemmas.List.Edits.{length-remove}
use Rattle.std.specs.List.{filter_map, cons_option, list_any, remove}
use Rattle.mvt_meaning.specs.Ordinals.{positions_of, count, from_nth, change_nth, without, before, after, change_first, move_nth, insert_nth}
use Rattle.mvt_meaning.proofs.Positions.{positions_from, positions_pass, positions_skip}
use Rattle.mvt_meaning.proofs.Between.{get_between}

-- ---- an item between others

get_beside : {B : Type 0} (front : List B) (x y : B) (back : List B) (n other : ℕ) → length front ≡ n → other ≢ n → slice_get (front ++ y ∷ back) other ≡ slice_get (front ++ x ∷ back) other
get_beside [] x y back n zero e apart = absurd (apart (omega arith))
get_beside [] x y back n (suc other) e apart = refl
get_beside (z ∷ front) x y back n zero e apart = refl
get_beside (z ∷ front) x y back n (suc other) e apart = get_beside front x y back (length front) other refl (λ same. apart (omega arith))

pub remove_between : {B : Type 0} (front : List B) (x : B) (back : List B) (n : ℕ) → length front ≡ n → remove (front ++ x ∷ back) n ≡ front ++ back
remove_between [] x back zero e = refl
remove_between [] x back (suc n) e = absurd (omega arith)
remove_between (y ∷ front) x back zero e = absurd (omega arith)
remove_between (y ∷ front) x back (suc n) e = ap (λ rest. y ∷ rest) (remove_between front x back n (omega arith))

-- ---- the items that have a part

abbrev pub has_part : {A B : Type 0} → (A → Option B) → A → Bool
has_part part item = is_some (part item)

-- the items except the one of an ordinal among those that have a part
abbrev pub without_part : {A B : Type 0} → (A → Option B) → ℕ → List A → Option (List A)
without_part part ordinal items = option_map (remove items) (slice_get (positions_of (has_part part) items) ordinal)

-- the item of an ordinal among those that have a part, and the items around it
pub record Around {A B : Type 0} (part : A → Option B) (ordinal : ℕ) (items : List A) : Type 0 where
  pub front : List A
  pub item : A
  pub value : B
  pub back : List A
  pub whole : items ≡ front ++ item ∷ back
  pub has : part item ≡ Some value
  pub counted : length (filter_map part front) ≡ ordinal

module _ {A B : Type 0} (part : A → Option B) where
  around_next : (x : A) (xs : List A) (found : Option B) → part x ≡ found → (ordinal : ℕ) → ordinal < length (cons_option found (filter_map part xs)) → ((n : ℕ) → n < length (filter_map part xs) → Around part n xs) → Around part ordinal (x ∷ xs)
  around_next x xs None is ordinal within more =
      let a = more ordinal within in
      record {
        front = x ∷ a.front;
        item = a.item;
        value = a.value;
        back = a.back;
        whole = ap (λ rest. x ∷ rest) a.whole;
        has = a.has;
        counted = ap (λ (found : Option B). length (cons_option found (filter_map part a.front))) is ∙ a.counted;
      }
  around_next x xs (Some value) is zero within more =
      record { front = []; item = x; value = value; back = xs; whole = refl; has = is; counted = refl }
  around_next x xs (Some value) is (suc n) within more =
      let a = more n (omega arith) in
      record {
        front = x ∷ a.front;
        item = a.item;
        value = a.value;
        back = a.back;
        whole = ap (λ rest. x ∷ rest) a.whole;
        has = a.has;
        counted = ap (λ (found : Option B). length (cons_option found (filter_map part a.front))) is ∙ ap suc a.counted;
      }

  pub around : (items : List A) (ordinal : ℕ) → ordinal < length (filter_map part items) → Around part ordinal items
  around [] ordinal within = absurd (omega arith)
  around (x ∷ xs) ordinal within = around_next x xs (part x) refl ordinal within (around xs)

  pub parts_between : (front : List A) (item : A) (value : B) (back : List A) → part item ≡ Some value → filter_map part (front ++ item ∷ back) ≡ filter_map part front ++ value ∷ filter_map part back
  parts_between front item value back has =
      filter_map-append part front (item ∷ back) ∙ ap (λ (found : Option B). filter_map part front ++ cons_option found (filter_map part back)) has

  parts_beside : (front : List A) (item : A) (back : List A) → part item ≡ None → filter_map part (front ++ item ∷ back) ≡ filter_map part (front ++ back)
  parts_beside front item back none =
      filter_map-append part front (item ∷ back)
      ∙ ap (λ (found : Option B). filter_map part front ++ cons_option found (filter_map part back)) none
      ∙ sym (filter_map-append part front back)

  counted_next : (x : A) (xs : List A) (found : Option B) → part x ≡ found → length (filter (has_part part) xs) ≡ length (filter_map part xs) → length (filter (has_part part) (x ∷ xs)) ≡ length (cons_option found (filter_map part xs))
  counted_next x xs None is e = rw is e
  counted_next x xs (Some value) is e = rw is (ap suc e)

  -- as many items pass as have a part
  pub count-parts : (items : List A) → count (has_part part) items ≡ length (filter_map part items)
  count-parts [] = refl
  count-parts (x ∷ xs) = counted_next x xs (part x) refl (count-parts xs)

  item_between : (front : List A) (item : A) (value : B) (back : List A) (n : ℕ) → part item ≡ Some value → length (filter_map part front) ≡ n → slice_get (filter (has_part part) (front ++ item ∷ back)) n ≡ Some item
  item_between front item value back n has counted =
      let here : filter (has_part part) (item ∷ back) ≡ item ∷ filter (has_part part) back = rw has refl in
      let all = filter-append (has_part part) front (item ∷ back) ∙ ap (λ rest. filter (has_part part) front ++ rest) here in
      ap (λ items. slice_get items n) all ∙ get_between (filter (has_part part) front) item (filter (has_part part) back) n (count-parts front ∙ counted)

  -- ---- a change from an ordinal on

  from_next : (change : List A → List A) (x : A) (rest made : List A) (found : Option B) (below : List A) → part x ≡ found → (n : ℕ) → length (cons_option found (filter_map part below)) ≡ n → ((m : ℕ) → length (filter_map part below) ≡ m → from_nth (has_part part) change m rest ≡ made) → from_nth (has_part part) change n (x ∷ rest) ≡ x ∷ made
  from_next change x rest made None below is n e more = rw is (ap (λ items. x ∷ items) (more n e))
  from_next change x rest made (Some value) below is n e more =
      let no : (n == 0) ≡ false = grind (arith, nat_tests) in
      rw (is, no) (ap (λ items. x ∷ items) (more (n - 1) (omega arith)))

  pub from_between : (change : List A → List A) (front : List A) (item : A) (value : B) (back : List A) (n : ℕ) → part item ≡ Some value → length (filter_map part front) ≡ n → from_nth (has_part part) change n (front ++ item ∷ back) ≡ front ++ change (item ∷ back)
  from_between change [] item value back n has e =
      let yes : (n == 0) ≡ true = grind (arith, nat_tests) in
      rw (has, yes) refl
  from_between change (x ∷ front) item value back n has e =
      from_next change x (front ++ item ∷ back) (front ++ change (item ∷ back)) (part x) front refl n e (λ m counted. from_between change front item value back m has counted)

  pub from_around : (change : List A → List A) (ordinal : ℕ) (items : List A) (a : Around part ordinal items) → from_nth (has_part part) change ordinal items ≡ a.front ++ change (a.item ∷ a.back)
  from_around change ordinal items a =
      ap (from_nth (has_part part) change ordinal) a.whole ∙ from_between change a.front a.item a.value a.back ordinal a.has a.counted

  -- ---- where one item changes, the positions stay

  positions_next : (x y : A) (n : ℕ) (xs : List A) (found : Bool) → is_some (part x) ≡ found → is_some (part y) ≡ found → positions_from (has_part part) n (y ∷ xs) ≡ positions_from (has_part part) n (x ∷ xs)
  positions_next x y n xs true e f = positions_pass (has_part part) n y xs f ∙ sym (positions_pass (has_part part) n x xs e)
  positions_next x y n xs false e f = positions_skip (has_part part) n y xs f ∙ sym (positions_skip (has_part part) n x xs e)

  positions_below : (x : A) (n : ℕ) (xs ys : List A) (found : Bool) → is_some (part x) ≡ found → positions_from (has_part part) (n + 1) ys ≡ positions_from (has_part part) (n + 1) xs → positions_from (has_part part) n (x ∷ ys) ≡ positions_from (has_part part) n (x ∷ xs)
  positions_below x n xs ys true e same = positions_pass (has_part part) n x ys e ∙ ap (λ rest. n ∷ rest) same ∙ sym (positions_pass (has_part part) n x xs e)
  positions_below x n xs ys false e same = positions_skip (has_part part) n x ys e ∙ same ∙ sym (positions_skip (has_part part) n x xs e)

  positions_between : (front : List A) (x y : A) (back : List A) (n : ℕ) → is_some (part y) ≡ is_some (part x) → positions_from (has_part part) n (front ++ y ∷ back) ≡ positions_from (has_part part) n (front ++ x ∷ back)
  positions_between [] x y back n same = positions_next x y n back (is_some (part x)) refl same
  positions_between (z ∷ front) x y back n same = positions_below z n (front ++ x ∷ back) (front ++ y ∷ back) (is_some (part z)) refl (positions_between front x y back (n + 1) same)

  position_next : (z : A) (zs : List A) (found : Option B) (front : List A) (n k : ℕ) → part z ≡ found → slice_get (positions_from (has_part part) (n + 1) zs) (length (filter_map part front)) ≡ Some k → slice_get (positions_from (has_part part) n (z ∷ zs)) (length (cons_option found (filter_map part front))) ≡ Some k
  position_next z zs None front n k is e = ap (λ list. slice_get list (length (filter_map part front))) (positions_skip (has_part part) n z zs (ap is_some is)) ∙ e
  position_next z zs (Some value) front n k is e = ap (λ list. slice_get list (suc (length (filter_map part front)))) (positions_pass (has_part part) n z zs (ap is_some is)) ∙ e

  position_between : (front : List A) (item : A) (value : B) (back : List A) (n k : ℕ) → part item ≡ Some value → k ≡ n + length front → slice_get (positions_from (has_part part) n (front ++ item ∷ back)) (length (filter_map part front)) ≡ Some k
  position_between [] item value back n k has e =
      let here : n ≡ k = omega arith in
      ap (λ list. slice_get list 0) (positions_pass (has_part part) n item back (ap is_some has)) ∙ ap (λ m. Some m) here
  position_between (z ∷ front) item value back n k has e = position_next z (front ++ item ∷ back) (part z) front n k refl (position_between front item value back (n + 1) k has (omega arith))

  -- the other items are those around it
  without_between : (front : List A) (item : A) (value : B) (back : List A) (ordinal : ℕ) → part item ≡ Some value → length (filter_map part front) ≡ ordinal → without_part part ordinal (front ++ item ∷ back) ≡ Some (front ++ back)
  without_between front item value back ordinal has counted =
      let at = ap (slice_get (positions_of (has_part part) (front ++ item ∷ back))) (sym counted) ∙ position_between front item value back 0 (length front) has (omega arith) in
      ap (option_map (remove (front ++ item ∷ back))) at ∙ ap (λ list. Some list) (remove_between front item back (length front) refl)

-- ---- one item changed, a new one put in, and one gone

-- two lists that are alike except for the part of this ordinal; rest is what the other items have
pub record OneDiffers {A B C : Type 0} (part : A → Option B) (rest : A → Option C) (ordinal : ℕ) (old new : List A) (former present : B) : Type 0 where
  pub was : slice_get (filter_map part old) ordinal ≡ Some former
  pub is : slice_get (filter_map part new) ordinal ≡ Some present
  pub others : (other : ℕ) → other ≢ ordinal → slice_get (filter_map part new) other ≡ slice_get (filter_map part old) other
  pub fields : filter_map rest new ≡ filter_map rest old
  pub positions : positions_of (has_part part) new ≡ positions_of (has_part part) old

-- an item with a part of this ordinal was put into a list
pub record Put {A B : Type 0} (part : A → Option B) (ordinal : ℕ) (new : A) (old made : List A) : Type 0 where
  pub front : List A
  pub back : List A
  pub whole : old ≡ front ++ back
  pub made_so : made ≡ front ++ new ∷ back
  pub counted : length (filter_map part front) ≡ ordinal

-- the part of this ordinal is new, and the others and the rest are there
pub record OneMore {A B C : Type 0} (part : A → Option B) (rest : A → Option C) (ordinal : ℕ) (value : B) (old new : List A) : Type 0 where
  pub there : slice_get (filter_map part new) ordinal ≡ Some value
  pub others : remove (filter_map part new) ordinal ≡ filter_map part old
  pub fields : filter_map rest new ≡ filter_map rest old
  pub items : without_part part ordinal new ≡ Some old

pub record OneLess {A B C : Type 0} (part : A → Option B) (rest : A → Option C) (ordinal : ℕ) (old new : List A) : Type 0 where
  pub others : filter_map part new ≡ remove (filter_map part old) ordinal
  pub fields : filter_map rest new ≡ filter_map rest old
  pub items : Some new ≡ without_part part ordinal old

pub record OneMoved {A B C : Type 0} (part : A → Option B) (rest : A → Option C) (from to : ℕ) (old new : List A) : Type 0 where
  pub there : slice_get (filter_map part new) to ≡ slice_get (filter_map part old) from
  pub others : remove (filter_map part new) to ≡ remove (filter_map part old) from
  pub fields : filter_map rest new ≡ filter_map rest old
  pub items : without_part part to new ≡ without_part part from old

module _ {A B C : Type 0} (part : A → Option B) (rest : A → Option C) (apart : (x : A) (value : B) → part x ≡ Some value → rest x ≡ None) where
  pub one_differs : (change : A → A) (ordinal : ℕ) (items : List A) (a : Around part ordinal items) (present : B) → part (change a.item) ≡ Some present → OneDiffers part rest ordinal items (change_nth (has_part part) change ordinal items) a.value present
  one_differs change ordinal items a present has =
      let made = from_around part (change_first change) ordinal items a in
      let old = ap (filter_map part) a.whole ∙ parts_between part a.front a.item a.value a.back a.has in
      let new = ap (filter_map part) made ∙ parts_between part a.front (change a.item) present a.back has in
      record {
        was = ap (λ parts. slice_get parts ordinal) old ∙ get_between (filter_map part a.front) a.value (filter_map part a.back) ordinal a.counted;
        is = ap (λ parts. slice_get parts ordinal) new ∙ get_between (filter_map part a.front) present (filter_map part a.back) ordinal a.counted;
        others = λ other beside. ap (λ parts. slice_get parts other) new ∙ get_beside (filter_map part a.front) a.value present (filter_map part a.back) ordinal other a.counted beside ∙ sym (ap (λ parts. slice_get parts other) old);
        fields = ap (filter_map rest) made ∙ parts_beside rest a.front (change a.item) a.back (apart (change a.item) present has)
            ∙ sym (ap (filter_map rest) a.whole ∙ parts_beside rest a.front a.item a.back (apart a.item a.value a.has));
        positions = ap (positions_of (has_part part)) made
            ∙ positions_between part a.front a.item (change a.item) a.back 0 (ap is_some has ∙ sym (ap is_some a.has))
            ∙ sym (ap (positions_of (has_part part)) a.whole);
      }

  pub one_more : (ordinal : ℕ) (new : A) (value : B) (old made : List A) → part new ≡ Some value → Put part ordinal new old made → OneMore part rest ordinal value old made
  one_more ordinal new value old made has p =
      let parts = ap (filter_map part) p.made_so ∙ parts_between part p.front new value p.back has in
      record {
        there = ap (λ list. slice_get list ordinal) parts ∙ get_between (filter_map part p.front) value (filter_map part p.back) ordinal p.counted;
        others = ap (λ list. remove list ordinal) parts ∙ remove_between (filter_map part p.front) value (filter_map part p.back) ordinal p.counted
            ∙ sym (filter_map-append part p.front p.back) ∙ sym (ap (filter_map part) p.whole);
        fields = ap (filter_map rest) p.made_so ∙ parts_beside rest p.front new p.back (apart new value has) ∙ sym (ap (filter_map rest) p.whole);
        items = ap (without_part part ordinal) p.made_so ∙ without_between part p.front new value p.back ordinal has p.counted ∙ ap (λ list. Some list) (sym p.whole);
      }

  pub one_less : (ordinal : ℕ) (items : List A) → Around part ordinal items → OneLess part rest ordinal items (without (has_part part) ordinal items)
  one_less ordinal items a =
      let made = from_around part (λ rest. drop 1 rest) ordinal items a in
      let old = ap (filter_map part) a.whole ∙ parts_between part a.front a.item a.value a.back a.has in
      record {
        others = ap (filter_map part) made ∙ filter_map-append part a.front a.back
            ∙ sym (ap (λ list. remove list ordinal) old ∙ remove_between (filter_map part a.front) a.value (filter_map part a.back) ordinal a.counted);
        fields = ap (filter_map rest) made ∙ sym (ap (filter_map rest) a.whole ∙ parts_beside rest a.front a.item a.back (apart a.item a.value a.has));
        items = ap (λ list. Some list) made ∙ sym (ap (without_part part ordinal) a.whole ∙ without_between part a.front a.item a.value a.back ordinal a.has a.counted);
      }

-- ---- before an item, after it, and at the end

module _ {A B : Type 0} (part : A → Option B) where
  put_before : (ordinal : ℕ) (new : A) (items : List A) → Around part ordinal items → Put part ordinal new items (before (has_part part) ordinal new items)
  put_before ordinal new items a =
      record { front = a.front; back = a.item ∷ a.back; whole = a.whole; made_so = from_around part (λ rest. new ∷ rest) ordinal items a; counted = a.counted }

  put_after : (ordinal next : ℕ) (new : A) (items : List A) → next ≡ suc ordinal → Around part ordinal items → Put part next new items (after (has_part part) ordinal new items)
  put_after ordinal next new items e a =
      let one_more = ap length (parts_between part a.front a.item a.value [] a.has) ∙ length_push (filter_map part a.front) a.value in
      let counted = a.counted in
      record {
        front = a.front ++ a.item ∷ [];
        back = a.back;
        whole = a.whole ∙ sym (append_assoc a.front (a.item ∷ []) a.back);
        made_so = from_around part (λ rest. take 1 rest ++ new ∷ drop 1 rest) ordinal items a ∙ sym (append_assoc a.front (a.item ∷ []) (new ∷ a.back));
        counted = one_more ∙ omega arith;
      }

  some_next : (x : A) (xs : List A) (found : Option B) → (is_some found || list_any (has_part part) xs) ≡ true → (list_any (has_part part) xs ≡ true → 0 < length (filter_map part xs)) → 0 < length (cons_option found (filter_map part xs))
  some_next x xs None e more = more e
  some_next x xs (Some value) e more = omega arith

  pub some_parts : (items : List A) → list_any (has_part part) items ≡ true → 0 < length (filter_map part items)
  some_parts [] e = absurd cc
  some_parts (x ∷ xs) e = some_next x xs (part x) e (some_parts xs)

  none_next : (x : A) (xs : List A) (found : Option B) → (is_some found || list_any (has_part part) xs) ≡ false → (list_any (has_part part) xs ≡ false → filter_map part xs ≡ []) → cons_option found (filter_map part xs) ≡ []
  none_next x xs None e more = more e
  none_next x xs (Some value) e more = absurd cc

  pub no_parts : (items : List A) → list_any (has_part part) items ≡ false → filter_map part items ≡ []
  no_parts [] e = refl
  no_parts (x ∷ xs) e = none_next x xs (part x) e (no_parts xs)

  put_last_one : (index : ℕ) (new : A) (items : List A) → index ≤ length (filter_map part items) → (nat_lt index (count (has_part part) items) ≡ false) → length (filter_map part items) ≤ index → Put part index new items (insert_nth (has_part part) index new items)
  put_last_one index new items within past least =
      let counted = count-parts part items in
      elim (cases_Bool (list_any (has_part part) items)) [
        | inl some ↦ (
            let many = some_parts items some in
            let last : count (has_part part) items - 1 < length (filter_map part items) = omega arith in
            let made : insert_nth (has_part part) index new items ≡ after (has_part part) (count (has_part part) items - 1) new items = rw (past, some) refl in
            subst (Put part index new items) (sym made) (put_after (count (has_part part) items - 1) index new items (omega arith) (around part items (count (has_part part) items - 1) last))
            )
        | inr none ↦ (
            let empty = no_parts items none in
            let made : insert_nth (has_part part) index new items ≡ items ++ new ∷ [] = rw (past, none) refl in
            let counted : length (filter_map part items) ≡ index = omega arith in
            subst (Put part index new items) (sym made) (record { front = items; back = []; whole = sym (append-nil items); made_so = refl; counted = counted })
            )
      ]

  pub put_nth : (index : ℕ) (new : A) (items : List A) → index ≤ length (filter_map part items) → Put part index new items (insert_nth (has_part part) index new items)
  put_nth index new items within =
      let counted = count-parts part items in
      elim (cases_lt index (count (has_part part) items)) [
        | inl low ↦ (
            let made : insert_nth (has_part part) index new items ≡ before (has_part part) index new items = rw (lt-ltb index (count (has_part part) items) low) refl in
            subst (Put part index new items) (sym made) (put_before index new items (around part items index (omega arith)))
            )
        | inr high ↦ put_last_one index new items within (le-ltb index (count (has_part part) items) high) (omega arith)
      ]

-- ---- moves

module _ {A B C : Type 0} (part : A → Option B) (rest : A → Option C) (apart : (x : A) (value : B) → part x ≡ Some value → rest x ≡ None) where
  put_back : (from to : ℕ) (items made : List A) (a : Around part from items) → Put part to a.item (without (has_part part) from items) made → OneMoved part rest from to items made
  put_back from to items made a put =
      let old = ap (filter_map part) a.whole ∙ parts_between part a.front a.item a.value a.back a.has in
      let less = one_less part rest apart from items a in
      let more = one_more part rest apart to a.item a.value (without (has_part part) from items) made a.has put in
      record {
        there = more.there ∙ sym (ap (λ list. slice_get list from) old ∙ get_between (filter_map part a.front) a.value (filter_map part a.back) from a.counted);
        others = more.others ∙ less.others;
        fields = more.fields ∙ less.fields;
        items = more.items ∙ less.items;
      }

  pub one_moved : (from to : ℕ) (items : List A) → from < length (filter_map part items) → to < length (filter_map part items) → OneMoved part rest from to items (move_nth (has_part part) from to items)
  one_moved from to items there within =
      let a = around part items from there in
      let item : slice_get (filter (has_part part) items) from ≡ Some a.item = ap (λ list. slice_get (filter (has_part part) list) from) a.whole ∙ item_between part a.front a.item a.value a.back from a.has a.counted in
      let left : List A = without (has_part part) from items in
      let less = one_less part rest apart from items a in
      let fewer : length (filter_map part left) + 1 ≡ length (filter_map part items) = omega (arith, ap length less.others, length-remove (filter_map part items) from there) in
      elim (cases_order from to) [
        | inl same ↦ (
            let made : move_nth (has_part part) from to items ≡ items = rw (item, le-ltb from to (omega arith), le-ltb to from (omega arith)) refl in
            subst (OneMoved part rest from to items) (sym made) (record {
              there = ap (λ n. slice_get (filter_map part items) n) (sym same);
              others = ap (λ n. remove (filter_map part items) n) (sym same);
              fields = refl;
              items = ap (λ n. without_part part n items) (sym same);
            })
            )
        | inr (inl up) ↦ (
            let made : move_nth (has_part part) from to items ≡ after (has_part part) (to - 1) a.item left = rw (item, lt-ltb from to up) refl in
            subst (OneMoved part rest from to items) (sym made) (put_back from to items (after (has_part part) (to - 1) a.item left) a (put_after part (to - 1) to a.item left (omega arith) (around part left (to - 1) (omega arith))))
            )
        | inr (inr down) ↦ (
            let made : move_nth (has_part part) from to items ≡ before (has_part part) to a.item left = rw (item, le-ltb from to (omega arith), lt-ltb to from down) refl in
            subst (OneMoved part rest from to items) (sym made) (put_back from to items (before (has_part part) to a.item left) a (put_before part to a.item left (around part left to (omega arith))))
            )
      ]

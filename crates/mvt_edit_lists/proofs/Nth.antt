-- A list taken apart at the item of an ordinal, and at two of them.
use Rattle.std.proofs.Common.{◌≡◌, ℕ, zero, suc, ◌+◌, ◌-◌, ◌<◌, ◌==◌, Bool, true, false, Some, List, [], ◌∷◌, ◌++◌, length, filter, slice_get, refl, sym, ap, ◌∙◌, inl, inr, arith}
use Rattle.std.proofs.lemmas.Bool.{cases_Bool}
use Rattle.std.proofs.lemmas.Bool.Decides.{nat_tests}
use Rattle.std.proofs.lemmas.List.{length-append}
use Rattle.std.proofs.lemmas.List.Elements.{filter-append}
use Rattle.mvt_meaning.specs.Ordinals.{count, from_nth, positions_of}
use Rattle.mvt_meaning.proofs.Positions.{positions_from, positions_pass, positions_skip}
use Rattle.mvt_meaning.proofs.Found.{filtered_pass, from_here}
use Rattle.mvt_meaning.proofs.Between.{get_between}

-- ---- how many pass

pub count_pass : {A : Type 0} (passes : A → Bool) (x : A) (xs : List A) → passes x ≡ true → count passes (x ∷ xs) ≡ suc (count passes xs)
count_pass passes x xs e = rw e refl

pub count_skip : {A : Type 0} (passes : A → Bool) (x : A) (xs : List A) → passes x ≡ false → count passes (x ∷ xs) ≡ count passes xs
count_skip passes x xs e = rw e refl

pub count_append : {A : Type 0} (passes : A → Bool) (xs ys : List A) → count passes (xs ++ ys) ≡ count passes xs + count passes ys
count_append passes xs ys = ap length (filter-append passes xs ys) ∙ length-append (filter passes xs) (filter passes ys)

-- ---- the item of an ordinal

-- the items before it, the item, and those after it
pub record Apart {A : Type 0} (passes : A → Bool) (ordinal : ℕ) (items : List A) : Type 0 where
  pub front : List A
  pub item : A
  pub back : List A
  pub joined : items ≡ front ++ item ∷ back
  pub counts : passes item ≡ true
  pub ordinal_is : count passes front ≡ ordinal

apart_pass : {A : Type 0} (passes : A → Bool) (n ordinal p : ℕ) (x : A) (xs : List A) → passes x ≡ true → slice_get (n ∷ positions_from passes (n + 1) xs) ordinal ≡ Some p → ((i : ℕ) → slice_get (positions_from passes (n + 1) xs) i ≡ Some p → (a : Apart passes i xs) × (p ≡ n + 1 + length a.front)) → (a : Apart passes ordinal (x ∷ xs)) × (p ≡ n + length a.front)
apart_pass passes n zero p x xs pass e later =
    let here : n ≡ p = cc in
    (record { front = []; item = x; back = xs; joined = refl; counts = pass; ordinal_is = refl }, omega arith)
apart_pass passes n (suc i) p x xs pass e later =
    let rest = later i e in
    let a = rest.0 in
    let place = rest.1 in
    (record { front = x ∷ a.front; item = a.item; back = a.back; joined = ap (λ ys. x ∷ ys) a.joined; counts = a.counts; ordinal_is = count_pass passes x a.front pass ∙ ap suc a.ordinal_is }, omega arith)

apart_skip : {A : Type 0} (passes : A → Bool) (n ordinal p : ℕ) (x : A) (xs : List A) → passes x ≡ false → (a : Apart passes ordinal xs) × (p ≡ n + 1 + length a.front) → (a : Apart passes ordinal (x ∷ xs)) × (p ≡ n + length a.front)
apart_skip passes n ordinal p x xs skip rest =
    let a = rest.0 in
    let place = rest.1 in
    (record { front = x ∷ a.front; item = a.item; back = a.back; joined = ap (λ ys. x ∷ ys) a.joined; counts = a.counts; ordinal_is = count_skip passes x a.front skip ∙ a.ordinal_is }, omega arith)

-- an ordinal has a position where its item is
pub apart_from : {A : Type 0} (passes : A → Bool) (n : ℕ) (items : List A) (ordinal p : ℕ) → slice_get (positions_from passes n items) ordinal ≡ Some p → (a : Apart passes ordinal items) × (p ≡ n + length a.front)
apart_from passes n [] ordinal p e = absurd cc
apart_from passes n (x ∷ xs) ordinal p e =
    elim (cases_Bool (passes x)) [
      | inl pass ↦ apart_pass passes n ordinal p x xs pass (rw (positions_pass passes n x xs pass) at e) (λ i e. apart_from passes (n + 1) xs i p e)
      | inr skip ↦ apart_skip passes n ordinal p x xs skip (apart_from passes (n + 1) xs ordinal p (rw (positions_skip passes n x xs skip) at e))
    ]

-- ---- a change from that item on

from_nth_after : {A : Type 0} (passes : A → Bool) (change : List A → List A) (k i : ℕ) (front rest : List A) → k ≡ count passes front + i → from_nth passes change k (front ++ rest) ≡ front ++ from_nth passes change i rest
from_nth_after passes change k i [] rest e = let same : k ≡ i = omega arith in ap (λ j. from_nth passes change j rest) same
from_nth_after passes change k i (x ∷ front) rest e =
    elim (cases_Bool (passes x)) [
      | inl pass ↦ (
          let counted = count_pass passes x front pass in
          let later : k ≡ suc (count passes front + i) = omega (arith, counted, e) in
          let some : (k == 0) ≡ false = grind (arith, nat_tests) in
          rw (pass, some) (ap (λ ys. x ∷ ys) (from_nth_after passes change (k - 1) i front rest (omega arith)))
          )
      | inr skip ↦ (
          let counted = count_skip passes x front skip in
          let later : k ≡ count passes front + i = omega (arith, counted, e) in
          rw skip (ap (λ ys. x ∷ ys) (from_nth_after passes change k i front rest later))
          )
    ]

pub from_nth_at : {A : Type 0} (passes : A → Bool) (change : List A → List A) (ordinal : ℕ) (front : List A) (item : A) (back : List A) → count passes front ≡ ordinal → passes item ≡ true → from_nth passes change ordinal (front ++ item ∷ back) ≡ front ++ change (item ∷ back)
from_nth_at passes change ordinal front item back counted pass =
    from_nth_after passes change ordinal 0 front (item ∷ back) (omega arith)
    ∙ ap (λ rest. front ++ rest) (from_here passes change item back pass)

-- ---- the item itself

pub nth_is : {A : Type 0} (passes : A → Bool) (ordinal : ℕ) (front : List A) (item : A) (back : List A) → count passes front ≡ ordinal → passes item ≡ true → slice_get (filter passes (front ++ item ∷ back)) ordinal ≡ Some item
nth_is passes ordinal front item back counted pass =
    ap (λ xs. slice_get xs ordinal) (filter-append passes front (item ∷ back) ∙ ap (λ xs. filter passes front ++ xs) (filtered_pass passes item back pass))
    ∙ get_between (filter passes front) item (filter passes back) ordinal counted

-- ---- two items

-- the items before the one of the lower ordinal, that one, those between, the one of the higher ordinal, and those
-- after it
pub record TwoApart {A : Type 0} (passes : A → Bool) (low high p q : ℕ) (items : List A) : Type 0 where
  pub front : List A
  pub first : A
  pub middle : List A
  pub second : A
  pub back : List A
  pub joined : items ≡ front ++ first ∷ (middle ++ second ∷ back)
  pub first_counts : passes first ≡ true
  pub second_counts : passes second ≡ true
  pub low_is : count passes front ≡ low
  pub high_is : count passes front + suc (count passes middle) ≡ high
  pub p_is : length front ≡ p
  pub q_is : length front + suc (length middle) ≡ q

positions_after : {A : Type 0} (passes : A → Bool) (n m k i : ℕ) (front rest : List A) → k ≡ count passes front + i → m ≡ n + length front → slice_get (positions_from passes n (front ++ rest)) k ≡ slice_get (positions_from passes m rest) i
positions_after passes n m k i [] rest e f =
    let here : k ≡ i = omega arith in
    let start : n ≡ m = omega arith in
    ap (slice_get (positions_from passes n rest)) here ∙ ap (λ j. slice_get (positions_from passes j rest) i) start
positions_after passes n m k i (x ∷ front) rest e f =
    let place : m ≡ n + 1 + length front = omega arith in
    elim (cases_Bool (passes x)) [
      | inl pass ↦ (
          let counted = count_pass passes x front pass in
          let later : k ≡ suc (count passes front + i) = omega (arith, counted, e) in
          ap (λ ps. slice_get ps k) (positions_pass passes n x (front ++ rest) pass)
          ∙ ap (slice_get (n ∷ positions_from passes (n + 1) (front ++ rest))) later
          ∙ positions_after passes (n + 1) m (count passes front + i) i front rest refl place
          )
      | inr skip ↦ (
          let counted = count_skip passes x front skip in
          let later : k ≡ count passes front + i = omega (arith, counted, e) in
          ap (λ ps. slice_get ps k) (positions_skip passes n x (front ++ rest) skip)
          ∙ positions_after passes (n + 1) m k i front rest later place
          )
    ]

next_after : {A : Type 0} (passes : A → Bool) (p steps q : ℕ) (x : A) (xs : List A) → passes x ≡ true → slice_get (positions_from passes p (x ∷ xs)) (suc steps) ≡ Some q → slice_get (positions_from passes (p + 1) xs) steps ≡ Some q
next_after passes p steps q x xs pass e = sym (ap (λ ps. slice_get ps (suc steps)) (positions_pass passes p x xs pass)) ∙ e

-- an item, and another among those after it
two_of : {A : Type 0} (passes : A → Bool) (low steps high p q : ℕ) (items : List A) (a : Apart passes low items) (b : Apart passes steps a.back) → p ≡ 0 + length a.front → q ≡ p + 1 + length b.front → high ≡ suc (low + steps) → TwoApart passes low high p q items
two_of passes low steps high p q items a b place place_after apart = record {
  front = a.front;
  first = a.item;
  middle = b.front;
  second = b.item;
  back = b.back;
  joined = a.joined ∙ ap (λ rest. a.front ++ a.item ∷ rest) b.joined;
  first_counts = a.counts;
  second_counts = b.counts;
  low_is = a.ordinal_is;
  high_is = omega (arith, a.ordinal_is, b.ordinal_is);
  p_is = omega arith;
  q_is = omega arith;
}

-- the positions of the items after one of an ordinal
following_one : {A : Type 0} (passes : A → Bool) (low steps high p q : ℕ) (items : List A) (a : Apart passes low items) → p ≡ 0 + length a.front → high ≡ suc (low + steps) → slice_get (positions_of passes items) high ≡ Some q → slice_get (positions_from passes (p + 1) a.back) steps ≡ Some q
following_one passes low steps high p q items a place apart e =
    next_after passes p steps q a.item a.back a.counts (
    sym (positions_after passes 0 p high (suc steps) a.front (a.item ∷ a.back) (omega (arith, a.ordinal_is)) place)
    ∙ ap (λ xs. slice_get (positions_from passes 0 xs) high) (sym a.joined)
    ∙ e
    )

pub two_apart : {A : Type 0} (passes : A → Bool) (low high p q : ℕ) (items : List A) → slice_get (positions_of passes items) low ≡ Some p → slice_get (positions_of passes items) high ≡ Some q → low < high → TwoApart passes low high p q items
two_apart passes low high p q items first second less =
    let a = apart_from passes 0 items low p first in
    let apart : high ≡ suc (low + (high - suc low)) = omega arith in
    let b = apart_from passes (p + 1) a.0.back (high - suc low) q (following_one passes low (high - suc low) high p q items a.0 a.1 apart second) in
    two_of passes low (high - suc low) high p q items a.0 b.0 a.1 b.1 apart

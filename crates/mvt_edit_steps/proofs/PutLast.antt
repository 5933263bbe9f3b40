-- A list in which the last item that passes is replaced, or which gets a new one at the end.
use Rattle.std.proofs.Common.{◌≡◌, ℕ, ◌+◌, ◌≤◌, Bool, true, false, Option, Some, None, List, [], ◌∷◌, ◌++◌, length, length-append, take, drop, filter, slice_get, refl, sym, ap, ◌∙◌, subst, inl, inr, append-nil, append_assoc, arith}
use Rattle.std.proofs.lemmas.Bool.{cases_Bool}
use Rattle.std.proofs.lemmas.List.{drop_all, drop_at, take_all, take_at}
use Rattle.std.proofs.lemmas.List.Elements.{filter-append}
use Rattle.std.proofs.lemmas.Option.{slice_get_past}
use Rattle.std.specs.List.{flat_map, last_or, list_any}
use Rattle.std.specs.Option.{IfSome, option_map_or, unwrap_or}
use Rattle.mvt_document.specs.Splicing.{part, splice}
use Rattle.mvt_document.proofs.Lists.{last_pushed, none_filtered}
use Rattle.mvt_meaning.specs.Ordinals.{change_last, put_last}
use Rattle.mvt_meaning.specs.Weights.{weigh_last}
use Rattle.mvt_meaning.proofs.Positions.{change_here, change_later, last_here, last_later, no_last, positions_from}
use Rattle.mvt_meaning.proofs.Between.{get_between}

-- ---- the list around its last item that passes

-- the item at k, where the list begins at n, and what is before and after it
pub record Around {A : Type 0} (passes : A → Bool) (n : ℕ) (xs : List A) (k : ℕ) : Type 0 where
  pub front : List A
  pub item : A
  pub rest : List A
  pub whole : xs ≡ front ++ item ∷ rest
  pub place : n + length front ≡ k
  pub passing : passes item ≡ true
  pub last : list_any passes rest ≡ false

pub around : {A : Type 0} (passes : A → Bool) (n : ℕ) (xs : List A) (k : ℕ) → last_or None (positions_from passes n xs) ≡ Some k → Around passes n xs k
around passes n [] k e = absurd cc
around passes n (x ∷ xs) k e =
    elim (cases_Bool (list_any passes xs)) [
      | inl later ↦ (
          let inner = around passes (n + 1) xs k (sym (last_later passes n x xs later) ∙ e) in
          let place : n + 1 + length inner.front ≡ k = inner.place in
          record { front = x ∷ inner.front; item = inner.item; rest = inner.rest; whole = ap (λ ys. x ∷ ys) inner.whole; place = omega arith; passing = inner.passing; last = inner.last }
          )
      | inr none ↦ (
          let here = last_here passes n k x xs none e in
          let same : n ≡ k = here.1 in
          record { front = []; item = x; rest = xs; whole = refl; place = omega arith; passing = here.0; last = none }
          )
    ]

any_there : {A : Type 0} (passes : A → Bool) (front : List A) (item : A) (rest : List A) → passes item ≡ true → list_any passes (front ++ item ∷ rest) ≡ true
any_there passes [] item rest pass = rw pass refl
any_there passes (x ∷ front) item rest pass =
    elim (cases_Bool (passes x)) [ inl here ↦ rw here refl | inr skip ↦ rw skip (any_there passes front item rest pass) ]

changed_there : {A : Type 0} (passes : A → Bool) (change : A → A) (front : List A) (item : A) (rest : List A) → passes item ≡ true → list_any passes rest ≡ false → change_last passes change (front ++ item ∷ rest) ≡ front ++ change item ∷ rest
changed_there passes change [] item rest pass none = change_here passes change item rest pass none
changed_there passes change (x ∷ front) item rest pass none =
    change_later passes change x (front ++ item ∷ rest) (any_there passes front item rest pass) ∙ ap (λ ys. x ∷ ys) (changed_there passes change front item rest pass none)

pub last_filtered : {A : Type 0} (passes : A → Bool) (front : List A) (item : A) (rest : List A) → passes item ≡ true → list_any passes rest ≡ false → last_or None (filter passes (front ++ item ∷ rest)) ≡ Some item
last_filtered passes front item rest pass none =
    let here : filter passes (item ∷ rest) ≡ item ∷ [] = rw pass (ap (λ ys. item ∷ ys) (none_filtered passes rest none)) in
    ap (last_or None) (filter-append passes front (item ∷ rest) ∙ ap (λ ys. filter passes front ++ ys) here) ∙ last_pushed None (filter passes front) item

-- ---- one item replaced

front_taken : {A : Type 0} (front : List A) (item : A) (rest : List A) (k : ℕ) → length front ≡ k → take k (front ++ item ∷ rest) ≡ front
front_taken front item rest k place = take_at front (item ∷ rest) k place

rest_left : {A : Type 0} (front : List A) (item : A) (rest : List A) (k : ℕ) → length front ≡ k → drop (k + 1) (front ++ item ∷ rest) ≡ rest
rest_left front item rest k place =
    ap (drop (k + 1)) (sym (append_assoc front (item ∷ []) rest))
    ∙ drop_at (front ++ item ∷ []) rest (k + 1) (length-append front (item ∷ []) ∙ ap (λ n. n + 1) place)

one_spliced : {A : Type 0} (front : List A) (item put : A) (rest : List A) (k : ℕ) → length front ≡ k → splice k 1 (put ∷ []) (front ++ item ∷ rest) ≡ front ++ put ∷ rest
one_spliced front item put rest k place =
    ap (λ ys. ys ++ put ∷ [] ++ drop (k + 1) (front ++ item ∷ rest)) (front_taken front item rest k place)
    ∙ ap (λ ys. front ++ put ∷ [] ++ ys) (rest_left front item rest k place)
    ∙ append_assoc front (put ∷ []) rest

one_part : {A : Type 0} (front : List A) (item : A) (rest : List A) (k : ℕ) → length front ≡ k → part k 1 (front ++ item ∷ rest) ≡ item ∷ []
one_part front item rest k place = ap (take 1) (drop_at front (item ∷ rest) k place)

get_front : {A : Type 0} (front : List A) (item : A) (rest : List A) → slice_get (front ++ item ∷ rest) (length front) ≡ Some item
get_front [] item rest = refl
get_front (x ∷ front) item rest = get_front front item rest

pub end_spliced : {A : Type 0} (xs : List A) (put : A) → splice (length xs) 0 (put ∷ []) xs ≡ xs ++ put ∷ []
end_spliced xs put =
    let none : drop (length xs + 0) xs ≡ [] = drop_all (length xs + 0) xs (omega arith) in
    let all : take (length xs) xs ≡ xs = take_all (length xs) xs (omega arith) in
    rw (none, all) (append-nil (xs ++ put ∷ []))

-- ---- where the item goes, and what results

-- the position of the last item that passes
abbrev pub last_of : {A : Type 0} → (A → Bool) → List A → Option ℕ
last_of passes xs = last_or None (positions_from passes 0 xs)

-- it goes there, or at the end
abbrev pub index_of : {A : Type 0} → Option ℕ → List A → ℕ
index_of last xs = unwrap_or last (length xs)

-- how many items it takes the place of
abbrev pub taken_of : Option ℕ → ℕ
taken_of last = option_map_or (λ position. 1) last 0

-- the item changed, or the new one
abbrev pub put_of : {A : Type 0} → (A → A) → A → Option ℕ → List A → A
put_of change new last xs = option_map_or change (slice_get xs (index_of last xs)) new

pub record IsPutLast {A : Type 0} (passes : A → Bool) (change : A → A) (new : A) (bytes : A → List ℕ) (xs : List A) (last : Option ℕ) : Type 0 where
  pub old : IfSome (slice_get xs (index_of last xs)) (λ x. passes x ≡ true)
  pub within : index_of last xs + taken_of last ≤ length xs
  pub made : splice (index_of last xs) (taken_of last) (put_of change new last xs ∷ []) xs ≡ put_last passes change new xs
  pub put : length (flat_map bytes (put_of change new last xs ∷ [])) ≡ weigh_last bytes passes (put_last passes change new xs)
  pub taken : length (flat_map bytes (part (index_of last xs) (taken_of last) xs)) ≡ weigh_last bytes passes xs

one_bytes : {A : Type 0} (bytes : A → List ℕ) (x : A) → length (flat_map bytes (x ∷ [])) ≡ length (bytes x)
one_bytes bytes x = ap length (append-nil (bytes x))

pub weighed : {A : Type 0} (bytes : A → List ℕ) (passes : A → Bool) (xs : List A) (x : A) → last_or None (filter passes xs) ≡ Some x → length (flat_map bytes (x ∷ [])) ≡ weigh_last bytes passes xs
weighed bytes passes xs x last = one_bytes bytes x ∙ ap (λ found. option_map_or (λ item. length (bytes item)) found 0) (sym last)

put_at_end : {A : Type 0} (passes : A → Bool) (change : A → A) (new : A) (bytes : A → List ℕ) (xs : List A) → passes new ≡ true → last_of passes xs ≡ None → IsPutLast passes change new bytes xs None
put_at_end passes change new bytes xs given e =
    let none = no_last passes 0 xs e in
    let past : slice_get xs (length xs) ≡ None = slice_get_past xs (length xs) (omega arith) in
    let made : put_last passes change new xs ≡ xs ++ new ∷ [] = rw none refl in
    let nothing = none_filtered passes xs none in
    let last : last_or None (filter passes (xs ++ new ∷ [])) ≡ Some new = last_filtered passes xs new [] given refl in
    record {
      old = rw past tt;
      within = omega arith;
      made = rw past (end_spliced xs new) ∙ sym made;
      put = rw past (weighed bytes passes (put_last passes change new xs) new (ap (λ ys. last_or None (filter passes ys)) made ∙ last));
      taken = ap (λ ys. option_map_or (λ item. length (bytes item)) (last_or None ys) 0) (sym nothing);
    }

put_in_place : {A : Type 0} (passes : A → Bool) (change : A → A) (new : A) (bytes : A → List ℕ) (front : List A) (item : A) (rest : List A) (k : ℕ) → length front ≡ k → passes item ≡ true → list_any passes rest ≡ false → passes (change item) ≡ true → IsPutLast passes change new bytes (front ++ item ∷ rest) (Some k)
put_in_place passes change new bytes front item rest k place pass none kept =
    let some = any_there passes front item rest pass in
    let there = get_between front item rest k place in
    let made : put_last passes change new (front ++ item ∷ rest) ≡ front ++ change item ∷ rest = rw some (changed_there passes change front item rest pass none) in
    record {
      old = rw there pass;
      within = omega (arith, length-append front (item ∷ rest));
      made = rw there (one_spliced front item (change item) rest k place) ∙ sym made;
      put = rw there (weighed bytes passes (put_last passes change new (front ++ item ∷ rest)) (change item) (ap (λ ys. last_or None (filter passes ys)) made ∙ last_filtered passes front (change item) rest kept none));
      taken = ap (λ ys. length (flat_map bytes ys)) (one_part front item rest k place) ∙ weighed bytes passes (front ++ item ∷ rest) item (last_filtered passes front item rest pass none);
    }

pub put_last_at : {A : Type 0} (passes : A → Bool) (change : A → A) (new : A) (bytes : A → List ℕ) (xs : List A) (last : Option ℕ) → passes new ≡ true → ((x : A) → passes x ≡ true → passes (change x) ≡ true) → last_of passes xs ≡ last → IsPutLast passes change new bytes xs last
put_last_at passes change new bytes xs None given kept e = put_at_end passes change new bytes xs given e
put_last_at passes change new bytes xs (Some k) given kept e =
    let found = around passes 0 xs k e in
    let place : 0 + length found.front ≡ k = found.place in
    subst (λ ys. IsPutLast passes change new bytes ys (Some k)) (sym found.whole) (put_in_place passes change new bytes found.front found.item found.rest k (omega arith) found.passing found.last (kept found.item found.passing))

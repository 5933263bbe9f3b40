-- Splices undone: what was taken out put back for what was put, and steps that lead back, from the last to the first.
use Rattle.std.proofs.Common.{◌≡◌, ℕ, suc, ◌+◌, ◌<◌, ◌≤◌, List, [], ◌∷◌, ◌++◌, length, length-append, length-drop, length-take, take, drop, take-append-drop, append_assoc, get_or, set, refl, sym, ap, ◌∙◌, subst, arith}
use Rattle.std.specs.List.{AllByRecursion}
use Rattle.std.proofs.lemmas.List.{length-take-le, take_at, drop_at, drop-drop, drop-set, drop_all, drop_more, same_from_push, take_all, take_more, take-set}
use Rattle.mvt_document.specs.Held.{Held}
use Rattle.mvt_document.specs.Splicing.{part, splice}
use Rattle.mvt_splices.specs.Splices.{Splice, spliced, spliced_length, splice_back, FindsRoom, after_all, FitAll, longest, turned_all, LeadBack}
use Rattle.mvt_splices.proofs.Runs.{after_joined, length-spliced, turned_joined}

length_front : {A : Type 0} (index : ℕ) (put items : List A) → index ≤ length items → length (take index items ++ put) ≡ index + length put
length_front index put items within = length-append (take index items) put ∙ ap (λ n. n + length put) (length-take-le index items within)

-- the prefix stays, and so does what comes after
take-splice : {A : Type 0} (index taken : ℕ) (put items : List A) → index ≤ length items → take index (splice index taken put items) ≡ take index items
take-splice index taken put items within =
    rw append_assoc (take_at (take index items) (put ++ drop (index + taken) items) index (length-take-le index items within))

drop-splice : {A : Type 0} (index taken : ℕ) (put items : List A) → index ≤ length items → drop (index + length put) (splice index taken put items) ≡ drop (index + taken) items
drop-splice index taken put items within =
    drop_at (take index items ++ put) (drop (index + taken) items) (index + length put) (length_front index put items within)

-- the prefix, a part and the rest are the list
pieces_join : {A : Type 0} (index taken : ℕ) (items : List A) → take index items ++ part index taken items ++ drop (index + taken) items ≡ items
pieces_join index taken items =
    rw (append_assoc, ← drop-drop taken index items, take-append-drop, take-append-drop)

-- what was taken out put back for what was put
pub splice-back : {A : Type 0} (index taken : ℕ) (put items : List A) → index ≤ length items → splice index (length put) (part index taken items) (splice index taken put items) ≡ items
splice-back index taken put items within =
    rw (take-splice index taken put items within, drop-splice index taken put items within) (pieces_join index taken items)

-- ---- all steps but the last

all_last : {A : Type 0} (P : A → Type 0) (xs : List A) (x : A) → AllByRecursion P (xs ++ x ∷ []) → AllByRecursion P xs × P x
all_last P [] x all = (tt, all.0)
all_last P (y ∷ xs) x all = let rest = all_last P xs x all.1 in ((all.0, rest.0), rest.1)

module _ {S T : Type 0} (splice_of : S → Splice T) where
  -- the last step fits what those before it make, for which there is room
  record HasLast (steps : List S) (s : S) (items : List T) (capacity : ℕ) : Type 0 where
    fit : FitAll splice_of steps (length items)
    there : (splice_of s).index + (splice_of s).taken ≤ length (after_all splice_of steps items)
    greatest : longest splice_of steps (length items) ≤ capacity
    reached : length (after_all splice_of steps items) ≤ capacity

  has_last : (steps : List S) (s : S) (items : List T) (capacity : ℕ) → FitAll splice_of (steps ++ s ∷ []) (length items) → longest splice_of (steps ++ s ∷ []) (length items) ≤ capacity → HasLast steps s items capacity
  has_last [] s items capacity fit long = record { fit = tt; there = fit.0; greatest = omega (arith, long); reached = omega (arith, long) }
  has_last (x ∷ steps) s items capacity fit long =
      let made = spliced (splice_of x) items in
      let count : length made ≡ spliced_length (splice_of x) (length items) = length-spliced (splice_of x) items fit.0 in
      let rest = has_last steps s made capacity (subst (FitAll splice_of (steps ++ s ∷ [])) (sym count) fit.1) (omega (arith, long, ap (longest splice_of (steps ++ s ∷ [])) count)) in
      record {
        fit = (fit.0, subst (FitAll splice_of steps) count rest.fit);
        there = rest.there;
        greatest = omega (arith, long, rest.greatest, ap (longest splice_of steps) count);
        reached = rest.reached;
      }

  length-turned : (turned : S → List T → S) (steps : List S) (items : List T) → length (turned_all splice_of turned steps items) ≡ length steps
  length-turned turned [] items = refl
  length-turned turned (s ∷ steps) items = ap suc (length-turned turned steps (spliced (splice_of s) items))

-- ---- steps that lead back

module _ {S T : Type 0} (splice_of : S → Splice T) (turned : S → List T → S) where
  abbrev LeadsBack : List S → Held T → List S → List T → Type 0
  LeadsBack = LeadBack splice_of turned

  as_many : (steps : List S) (list : Held T) (first : List S) (items : List T) → LeadsBack steps list first items → length steps ≡ length first
  as_many steps list first items back = ap length back.are_turned ∙ length-turned splice_of turned first items

  -- all of them are left
  pub all_left : (steps : List S) (list : Held T) (first : List S) (items : List T) (n : ℕ) → n ≡ length steps → LeadsBack steps list first items → LeadsBack (take n steps) list (take n first) items × (drop n steps ≡ drop n first)
  all_left steps list first items n is back =
      let many = as_many steps list first items back in
      let whole : take n steps ≡ steps = take_all n steps (omega (arith, is)) in
      let firsts : take n first ≡ first = take_all n first (omega (arith, is, many)) in
      (rw (whole, firsts) back, drop_all n steps (omega (arith, is)) ∙ sym (drop_all n first (omega (arith, is, many))))

  module _ (twice : (s : S) (items : List T) → (splice_of s).index + (splice_of s).taken ≤ length items → FindsRoom (splice_of s) → turned (turned s items) (spliced (splice_of s) items) ≡ s) (as_splice : (s : S) (items : List T) → splice_of (turned s items) ≡ splice_back (splice_of s) items) (n i : ℕ) (steps : List S) (list : Held T) (first : List S) (items : List T) (d : S) (more : n ≡ i + 1) (inside : i < length steps) (back : LeadsBack (take n steps) list (take n first) items) where
    abbrev front : List S
    front = take i first

    abbrev last : S
    last = get_or first i d

    abbrev before : List T
    before = after_all splice_of front items

    there : i < length first
    there =
        let long = length-take-le n steps (omega (arith, more, inside)) in
        let short = as_many (take n steps) list (take n first) items back in
        omega (arith, more, long, short, length-take n first)

    parts : take n first ≡ front ++ last ∷ []
    parts = ap (λ k. take k first) more ∙ take_more first i d there

    has : HasLast splice_of front last items (length list.items + list.room)
    has = has_last splice_of front last items (length list.items + list.room) (subst (λ xs. FitAll splice_of xs (length items)) parts back.fit) (subst (λ xs. longest splice_of xs (length items) ≤ length list.items + list.room) parts back.greatest)

    finds : AllByRecursion (λ s. FindsRoom (splice_of s)) front × FindsRoom (splice_of last)
    finds = all_last (λ s. FindsRoom (splice_of s)) front last (subst (AllByRecursion (λ s. FindsRoom (splice_of s))) parts back.find_room)

    were : (take i steps ≡ turned_all splice_of turned front items) × (get_or steps i d ≡ turned last before)
    were =
        same_from_push (take i steps) (turned_all splice_of turned front items) (get_or steps i d) (turned last before)
        (sym (take_more steps i d inside) ∙ ap (λ k. take k steps) (sym more) ∙ back.are_turned ∙ ap (λ xs. turned_all splice_of turned xs items) parts ∙ turned_joined splice_of turned front (last ∷ []) items)

    now : list.items ≡ spliced (splice_of last) before
    now = back.made ∙ ap (λ xs. after_all splice_of xs items) parts ∙ after_joined splice_of front (last ∷ []) items

    long : length list.items ≡ spliced_length (splice_of last) (length before)
    long = ap length now ∙ length-spliced (splice_of last) before has.there

    leads : splice_of (get_or steps i d) ≡ splice_back (splice_of last) before
    leads = ap splice_of were.1 ∙ as_splice last before

    gone : length (part (splice_of last).index (splice_of last).taken before) ≡ (splice_of last).taken
    gone = length-take-le (splice_of last).taken (drop (splice_of last).index before) (omega (arith, length-drop (splice_of last).index before, has.there))

    pub back_there : (splice_of (get_or steps i d)).index + (splice_of (get_or steps i d)).taken ≤ length list.items
    back_there = subst (λ (s : Splice T). s.index + s.taken ≤ length list.items) (sym leads) (omega (arith, long, has.there))

    pub back_room : length (splice_of (get_or steps i d)).put.items ≤ list.room + (splice_of (get_or steps i d)).taken
    back_room = subst (λ (s : Splice T). length s.put.items ≤ list.room + s.taken) (sym leads) (omega (arith, gone, long, has.there, has.reached))

    pub back_put_room : FindsRoom (splice_of (get_or steps i d))
    back_put_room = subst FindsRoom (sym leads) (omega (arith, gone, finds.1))

    pub one_less : (made : Held T) (next : S) → made.items ≡ spliced (splice_of (get_or steps i d)) list.items → length made.items + made.room ≡ length list.items + list.room → next ≡ turned (get_or steps i d) list.items → drop n steps ≡ drop n first
        → LeadsBack (take i (set steps i next)) made front items × (drop i (set steps i next) ≡ drop i first)
    one_less made next makes room turns following =
        let index : (splice_of last).index ≤ length before = omega (arith, has.there) in
        let undone : made.items ≡ before = makes ∙ ap (λ s. spliced s list.items) leads ∙ ap (spliced (splice_back (splice_of last) before)) now ∙ splice-back (splice_of last).index (splice_of last).taken (splice_of last).put.items before index in
        let same : next ≡ last = turns ∙ ap (λ s. turned s list.items) were.1 ∙ ap (turned (turned last before)) now ∙ twice last before has.there finds.1 in
        let rest : drop (i + 1) steps ≡ drop (i + 1) first = ap (λ k. drop k steps) (sym more) ∙ following ∙ ap (λ k. drop k first) more in (
          record { fit = has.fit; find_room = finds.0; are_turned = take-set steps i next ∙ were.0; made = undone; greatest = omega (arith, room, has.greatest) },
          drop-set steps i next inside ∙ ap (λ s. s ∷ drop (i + 1) steps) same ∙ ap (λ xs. last ∷ xs) rest ∙ sym (drop_more first i d there),
        )

  -- none are left
  pub none_left : (steps : List S) (list : Held T) (first : List S) (items : List T) (n : ℕ) → n ≡ 0 → LeadsBack (take n steps) list (take n first) items × (drop n steps ≡ drop n first) → (steps ≡ first) × (list.items ≡ items)
  none_left steps list first items n none met =
      (ap (λ k. drop k steps) (sym none) ∙ met.1 ∙ ap (λ k. drop k first) none, met.0.made ∙ ap (λ k. after_all splice_of (take k first) items) none)

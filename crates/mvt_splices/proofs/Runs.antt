-- Splices of one list, one after the other.
use Rattle.std.proofs.Common.{◌≡◌, ℕ, zero, suc, ◌+◌, ◌-◌, ◌<◌, ◌≤◌, max, Bool, true, false, IsTrue, List, [], ◌∷◌, ◌++◌, length, length-append, length-drop, take, drop, take-append-drop, get_or, set, refl, sym, ap, ◌∙◌, subst, arith}
use Rattle.std.specs.Prelude.{Option, Some, None, IfSome}
use Rattle.std.specs.List.{AllByRecursion, AllZip, flat_map}
use Rattle.std.proofs.lemmas.List.{length-take-le, get_or-drop, get_or_default, drop-drop, drop-set, drop-set-lt, drop_more, take-set, take_more, take_more_set}
use Rattle.mvt_document.specs.Held.{Held}
use Rattle.mvt_document.proofs.EachItem.{all_joined}
use Rattle.mvt_document.specs.Splicing.{part, splice}
use Rattle.mvt_document.proofs.Beside.{spliced_size}
use Rattle.mvt_splices.specs.Splices.{Splice, spliced, spliced_length, IsRoomier, after_all, FitAll, longest, turned_all, FitRun, FindsRoom, StartElsewhere, AreCarriedOut, OnlyMakesRoom, LeadBack}

pub length-spliced : {T : Type 0} (s : Splice T) (items : List T) → s.index + s.taken ≤ length items → length (spliced s items) ≡ spliced_length s (length items)
length-spliced s items within =
    let put = s.put.items in
    omega (arith, length-append (take s.index items ++ put) (drop (s.index + s.taken) items), length-append (take s.index items) put, length-take-le s.index items (omega arith), length-drop (s.index + s.taken) items)

pub roomy_spliced : {T : Type 0} (s t : Splice T) (items : List T) → IsRoomier s t → spliced t items ≡ spliced s items
roomy_spliced s t items roomy =
    ap (λ n. splice n t.taken t.put.items items) roomy.index
    ∙ ap (λ n. splice s.index n t.put.items items) roomy.taken
    ∙ ap (λ put. splice s.index s.taken put items) roomy.items

pub roomy_length : {T : Type 0} (s t : Splice T) (n : ℕ) → IsRoomier s t → spliced_length t n ≡ spliced_length s n
roomy_length s t n roomy =
    ap (λ k. n - k + length t.put.items) roomy.taken ∙ ap (λ put. n - s.taken + length put) roomy.items

-- ---- sizes that are known

pub known_is : (known : Option ℕ) (n m : ℕ) → IfSome known (λ k. k ≡ n) → known ≡ Some m → m ≡ n
known_is None n m is some = absurd cc
known_is (Some k) n m is some = let same : k ≡ m = cc in sym same ∙ is

-- what a splice leaves and takes out weighs what there was and what it puts
pub weighed : {T : Type 0} (bytes : T → List ℕ) (s : Splice T) (items out : List T) → out ≡ part s.index s.taken items → length (flat_map bytes (spliced s items)) + length (flat_map bytes out) ≡ length (flat_map bytes items) + length (flat_map bytes s.put.items)
weighed bytes s items out is = ap (λ xs. length (flat_map bytes (spliced s items)) + length (flat_map bytes xs)) is ∙ spliced_size bytes s.index s.taken s.put.items items

-- ---- lists whose items are related one by one

pub zip_same : {A : Type 0} (R : A → A → Type 0) → ((x : A) → R x x) → (xs : List A) → AllZip R xs xs
zip_same R same [] = tt
zip_same R same (x ∷ xs) = (same x, zip_same R same xs)

pub zip_append : {A : Type 0} (R : A → A → Type 0) (xs ys zs ws : List A) → AllZip R xs ys → AllZip R zs ws → AllZip R (xs ++ zs) (ys ++ ws)
zip_append R [] [] zs ws first second = second
zip_append R [] (y ∷ ys) zs ws first second = absurd first
zip_append R (x ∷ xs) [] zs ws first second = absurd first
zip_append R (x ∷ xs) (y ∷ ys) zs ws first second = (first.0, zip_append R xs ys zs ws first.1 second)

same_at : {A : Type 0} (xs ys : List A) (i : ℕ) (d : A) → drop i xs ≡ drop i ys → get_or xs i d ≡ get_or ys i d
same_at xs ys i d same =
    let none : i + 0 ≡ i = omega arith in
    ap (λ n. get_or xs n d) (sym none) ∙ sym (get_or-drop i xs 0 d) ∙ ap (λ zs. get_or zs 0 d) same ∙ get_or-drop i ys 0 d ∙ ap (λ n. get_or ys n d) none

module _ {S T : Type 0} (splice_of : S → Splice T) where
  pub length_within : (steps : List S) (n : ℕ) → n ≤ longest splice_of steps n
  length_within [] n = omega arith
  length_within (s ∷ steps) n = omega arith

  module _ (roomier : S → S → Type 0) (law : (s t : S) → roomier s t → IsRoomier (splice_of s) (splice_of t)) where
    pub roomy_after : (steps roomy : List S) (items : List T) → AllZip roomier steps roomy → after_all splice_of roomy items ≡ after_all splice_of steps items
    roomy_after [] [] items all = refl
    roomy_after [] (t ∷ roomy) items all = absurd all
    roomy_after (s ∷ steps) [] items all = absurd all
    roomy_after (s ∷ steps) (t ∷ roomy) items all =
        ap (after_all splice_of roomy) (roomy_spliced (splice_of s) (splice_of t) items (law s t all.0)) ∙ roomy_after steps roomy (spliced (splice_of s) items) all.1

    pub roomy_fit : (steps roomy : List S) (n : ℕ) → AllZip roomier steps roomy → FitAll splice_of steps n → FitAll splice_of roomy n
    roomy_fit [] [] n all fit = tt
    roomy_fit [] (t ∷ roomy) n all fit = absurd all
    roomy_fit (s ∷ steps) [] n all fit = absurd all
    roomy_fit (s ∷ steps) (t ∷ roomy) n all fit =
        let same = law s t all.0 in
        let index = same.index in
        let taken = same.taken in
        let here = fit.0 in
        (omega arith, subst (FitAll splice_of roomy) (sym (roomy_length (splice_of s) (splice_of t) n same)) (roomy_fit steps roomy (spliced_length (splice_of s) n) all.1 fit.1))

    pub roomy_longest : (steps roomy : List S) (n : ℕ) → AllZip roomier steps roomy → longest splice_of roomy n ≡ longest splice_of steps n
    roomy_longest [] [] n all = refl
    roomy_longest [] (t ∷ roomy) n all = absurd all
    roomy_longest (s ∷ steps) [] n all = absurd all
    roomy_longest (s ∷ steps) (t ∷ roomy) n all =
        ap (λ m. max n (longest splice_of roomy m)) (roomy_length (splice_of s) (splice_of t) n (law s t all.0)) ∙ ap (max n) (roomy_longest steps roomy (spliced_length (splice_of s) n) all.1)

  -- ---- one more step

  pub after_joined : (first second : List S) (items : List T) → after_all splice_of (first ++ second) items ≡ after_all splice_of second (after_all splice_of first items)
  after_joined [] second items = refl
  after_joined (s ∷ first) second items = after_joined first second (spliced (splice_of s) items)

  pub turned_joined : (turned : S → List T → S) (first second : List S) (items : List T) → turned_all splice_of turned (first ++ second) items ≡ turned_all splice_of turned first items ++ turned_all splice_of turned second (after_all splice_of first items)
  turned_joined turned [] second items = refl
  turned_joined turned (s ∷ first) second items = ap (λ rest. turned s items ∷ rest) (turned_joined turned first second (spliced (splice_of s) items))

  longest_more : (steps : List S) (s : S) (items : List T) (capacity : ℕ) → FitAll splice_of steps (length items) → longest splice_of steps (length items) ≤ capacity
      → spliced_length (splice_of s) (length (after_all splice_of steps items)) ≤ capacity → longest splice_of (steps ++ s ∷ []) (length items) ≤ capacity
  longest_more [] s items capacity fit long next = omega (arith, long, next)
  longest_more (x ∷ steps) s items capacity fit long next =
      let made = spliced (splice_of x) items in
      let count : length made ≡ spliced_length (splice_of x) (length items) = length-spliced (splice_of x) items fit.0 in
      let far = longest_more steps s made capacity (subst (FitAll splice_of steps) (sym count) fit.1) (omega (arith, long, ap (longest splice_of steps) count)) next in
      omega (arith, long, far, ap (longest splice_of (steps ++ s ∷ [])) count)

  module _ (on : S → Type 0) where
    pub run_fits : (n : ℕ) (steps : List S) (count : ℕ) → FitRun on splice_of steps count → AllByRecursion on (take n steps) → FitAll splice_of (take n steps) count
    run_fits zero steps count fit run = tt
    run_fits (suc n) [] count fit run = tt
    run_fits (suc n) (s ∷ steps) count fit run =
        let here = fit run.0 in
        (here.0, run_fits n steps (spliced_length (splice_of s) count) here.1 run.1)

    next_fits : (n : ℕ) (steps : List S) (d : S) (items : List T) → n < length steps → FitRun on splice_of steps (length items) → AllByRecursion on (take n steps) → on (get_or steps n d)
        → (splice_of (get_or steps n d)).index + (splice_of (get_or steps n d)).taken ≤ length (after_all splice_of (take n steps) items)
    next_fits n [] d items inside fit run here = absurd (omega arith)
    next_fits zero (s ∷ steps) d items inside fit run here = (fit here).0
    next_fits (suc n) (s ∷ steps) d items inside fit run here =
        let there = fit run.0 in
        next_fits n steps d (spliced (splice_of s) items) (omega arith) (subst (FitRun on splice_of steps) (sym (length-spliced (splice_of s) items there.0)) there.1) run.1 here

-- ---- steps that are carried out

-- what holds for the item at a position holds for it where it is read again
pub read_again : {S : Type 0} (on : S → Type 0) (steps : List S) (n : ℕ) (c d : S) → n < length steps → on (get_or steps n c) → on (get_or steps n d)
read_again on steps n c d inside here = subst on (get_or_default steps n c d inside) here

-- what a test refuses does not hold
pub refused : (is : Bool) (P : Type 0) → (P → IsTrue is) → is ≡ false → P → ⊥
refused true P says is_false p = absurd cc
refused false P says is_false p = let yes : IsTrue false = says p in absurd cc

starts_elsewhere : {S : Type 0} (on : S → Type 0) (steps : List S) (n : ℕ) (d : S) → (n < length steps → on (get_or steps n d) → ⊥) → StartElsewhere on (drop n steps)
starts_elsewhere on [] zero d other = tt
starts_elsewhere on [] (suc n) d other = tt
starts_elsewhere on (s ∷ steps) zero d other = other (omega arith)
starts_elsewhere on (s ∷ steps) (suc n) d other = starts_elsewhere on steps n d (λ inside. other (omega arith))

module _ {S T : Type 0} (on : S → Type 0) (splice_of : S → Splice T) (turned : S → List T → S) (roomier : S → S → Type 0) where
  abbrev AreMade : ℕ → List S → List S → Held T → Held T → Type 0
  AreMade = AreCarriedOut on splice_of turned roomier

  pub none_made : (steps : List S) (list : Held T) → AreMade 0 steps steps list list
  none_made steps list = record { within = omega arith; run = tt; items = refl; room = omega arith; greatest = omega arith; are_turned = ([], tt, tt, refl); left = refl }

  module _ (n : ℕ) (given steps : List S) (list now made : Held T) (d : S) (so_far : AreMade n given steps list now) where
    abbrev step : S
    step = get_or steps n d

    same_step : step ≡ get_or given n d
    same_step = same_at steps given n d so_far.left

    module _ (inside : n < length steps) where
      within : n < length given
      within = omega (arith, inside, ap length so_far.left, length-drop n steps, length-drop n given)

      -- what the next step takes out is there
      pub next_there : FitRun on splice_of given (length list.items) → on step → (splice_of step).index + (splice_of step).taken ≤ length now.items
      next_there fit here =
          let there = next_fits splice_of on n given d list.items within fit so_far.run (subst on same_step here) in
          rw (so_far.items, same_step) there

      rest_more : (next : S) → drop (n + 1) (set steps n next) ≡ drop (n + 1) given
      rest_more next = drop-set-lt (n + 1) steps n next (omega arith) ∙ sym (drop-drop 1 n steps) ∙ ap (drop 1) so_far.left ∙ drop-drop 1 n given

      pub one_more : (law : (s t : S) → roomier s t → IsRoomier (splice_of s) (splice_of t)) (next : S) → FitRun on splice_of given (length list.items) → on step → made.items ≡ spliced (splice_of step) now.items → length now.items + now.room ≤ length made.items + made.room
          → ((roomy : S) × roomier step roomy × FindsRoom (splice_of roomy) × (next ≡ turned roomy now.items)) → AreMade (n + 1) given (set steps n next) list made
      one_more law next fit here items room turns =
          let front = take n given in
          let old = so_far.are_turned in
          let first : take (n + 1) given ≡ front ++ step ∷ [] = take_more given n d within ∙ ap (λ s. front ++ s ∷ []) (sym same_step) in
          let all : made.items ≡ after_all splice_of (front ++ step ∷ []) list.items = items ∙ ap (spliced (splice_of step)) so_far.items ∙ sym (after_joined splice_of front (step ∷ []) list.items) in
          let count : spliced_length (splice_of step) (length now.items) ≡ length made.items = sym (length-spliced (splice_of step) now.items (next_there fit here)) ∙ ap length (sym items) in
          let reached : spliced_length (splice_of step) (length (after_all splice_of front list.items)) ≡ spliced_length (splice_of step) (length now.items) = ap (λ xs. spliced_length (splice_of step) (length xs)) (sym so_far.items) in
          let roomys = old.0 ++ turns.0 ∷ [] in
          let met : now.items ≡ after_all splice_of old.0 list.items = so_far.items ∙ sym (roomy_after splice_of roomier law front old.0 list.items old.1) in
          record {
            within = omega (arith, within);
            run = subst (AllByRecursion on) (sym first) (all_joined on front (step ∷ []) so_far.run (here, tt));
            items = all ∙ ap (λ xs. after_all splice_of xs list.items) (sym first);
            room = omega (arith, room, so_far.room);
            greatest =
                subst (λ xs. longest splice_of xs (length list.items) ≤ length made.items + made.room) (sym first)
                (longest_more splice_of front step list.items (length made.items + made.room) (run_fits splice_of on n given (length list.items) fit so_far.run) (omega (arith, so_far.greatest, room)) (omega (arith, count, reached)));
            are_turned = (
              roomys,
              subst (λ xs. AllZip roomier xs roomys) (sym first) (zip_append roomier front old.0 (step ∷ []) (turns.0 ∷ []) old.1 (turns.1, tt)),
              all_joined (λ s. FindsRoom (splice_of s)) old.0 (turns.0 ∷ []) old.2 (turns.2, tt),
              take_more_set steps n next inside
                  ∙ ap (λ xs. xs ++ next ∷ []) old.3
                  ∙ ap (λ s. turned_all splice_of turned old.0 list.items ++ s ∷ []) (turns.3 ∙ ap (turned turns.0) met)
                  ∙ sym (turned_joined splice_of turned old.0 (turns.0 ∷ []) list.items),
            );
            left = rest_more next;
          }

      -- memory ran out at the next step: those that were made lead back, and then there is only more room
      module _ (law : (s t : S) → roomier s t → IsRoomier (splice_of s) (splice_of t)) (next : S) (items : made.items ≡ now.items) (room : length now.items + now.room ≤ length made.items + made.room) where
        pub lead_back : FitRun on splice_of given (length list.items) → LeadBack splice_of turned (take n (set steps n next)) made so_far.are_turned.0 list.items
        lead_back fit =
            let front = take n given in
            let old = so_far.are_turned in
            record {
              fit = roomy_fit splice_of roomier law front old.0 (length list.items) old.1 (run_fits splice_of on n given (length list.items) fit so_far.run);
              find_room = old.2;
              are_turned = take-set steps n next ∙ old.3;
              made = items ∙ so_far.items ∙ sym (roomy_after splice_of roomier law front old.0 list.items old.1);
              greatest = omega (arith, room, so_far.greatest, roomy_longest splice_of roomier law front old.0 (length list.items) old.1);
            }

        pub stops : ((s : S) → roomier s s) → roomier step next → (back : List S) (end : Held T) → back ≡ so_far.are_turned.0 → end.items ≡ list.items → length end.items + end.room ≡ length made.items + made.room → OnlyMakesRoom roomier given (back ++ drop n (set steps n next)) list end
        stops as_roomy more back end were same capacity =
            let front = take n given in
            let following : given ≡ front ++ step ∷ drop (n + 1) given = sym (take-append-drop n given) ∙ ap (λ xs. front ++ xs) (drop_more given n d within ∙ ap (λ s. s ∷ drop (n + 1) given) (sym same_step)) in
            let left : drop n (set steps n next) ≡ next ∷ drop (n + 1) given = drop-set steps n next inside ∙ ap (λ xs. next ∷ xs) (sym (drop-set-lt (n + 1) steps n next (omega arith)) ∙ rest_more next) in
            let all = zip_append roomier front so_far.are_turned.0 (step ∷ drop (n + 1) given) (next ∷ drop (n + 1) given) so_far.are_turned.1 (more, zip_same roomier as_roomy (drop (n + 1) given)) in
            record { items = same; room = omega (arith, room, so_far.room, capacity); are_roomier = subst (λ xs. AllZip roomier xs (back ++ drop n (set steps n next))) (sym following) (rw (were, left) all) }

    -- the next step, if there is one, is not on the list
    pub ends_there : (n < length steps → on step → ⊥) → StartElsewhere on (drop n given)
    ends_there other = subst (StartElsewhere on) so_far.left (starts_elsewhere on steps n d other)

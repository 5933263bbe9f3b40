-- A move among the items that pass is a move among all items.
use Rattle.std.proofs.Common.{◌≡◌, ℕ, suc, ◌+◌, ◌-◌, nat_lt, Bool, true, false, Some, List, [], ◌∷◌, ◌++◌, length, take, drop, slice_get, append_assoc, refl, sym, ap, ◌∙◌, subst, inl, inr, arith}
use Rattle.std.proofs.lemmas.Bool.{cases_order}
use Rattle.std.proofs.lemmas.Bool.Decides.{nat_tests}
use Rattle.std.proofs.lemmas.List.{append-nil, length-append, take_at, drop_at}
use Rattle.mvt_document.specs.Splicing.{splice, moved}
use Rattle.mvt_meaning.specs.Ordinals.{before, after, count, move_nth, positions_of, without}
use Rattle.mvt_edit_lists.proofs.Nth.{apart_from, count_append, count_pass, from_nth_at, nth_is, two_apart}

-- ---- items inserted and moved

pub splice_in : {A : Type 0} (q : ℕ) (front : List A) (x : A) (back : List A) → length front ≡ q → splice q 0 (x ∷ []) (front ++ back) ≡ front ++ x ∷ back
splice_in q front x back e =
    ap (λ start. start ++ x ∷ [] ++ drop (q + 0) (front ++ back)) (take_at front back q e)
    ∙ ap (λ rest. front ++ x ∷ [] ++ rest) (drop_at front back (q + 0) (omega arith))
    ∙ append_assoc front (x ∷ []) back

splice_out : {A : Type 0} (p : ℕ) (front : List A) (x : A) (back : List A) → length front ≡ p → splice p 1 [] (front ++ x ∷ back) ≡ front ++ back
splice_out p front x back e =
    ap (λ start. start ++ [] ++ drop (p + 1) (front ++ x ∷ back)) (take_at front (x ∷ back) p e)
    ∙ ap (λ rest. front ++ [] ++ drop (p + 1) rest) (sym (append_assoc front (x ∷ []) back))
    ∙ ap (λ rest. front ++ [] ++ rest) (drop_at (front ++ x ∷ []) back (p + 1) (omega (arith, length-append front (x ∷ []))))
    ∙ ap (λ start. start ++ back) (append-nil front)

moved_at : {A : Type 0} (p q : ℕ) (front : List A) (x : A) (back : List A) → length front ≡ p → moved p q (front ++ x ∷ back) ≡ splice q 0 (x ∷ []) (front ++ back)
moved_at p q front x back e =
    ap (λ rest. splice q 0 (take 1 rest) (splice p 1 [] (front ++ x ∷ back))) (drop_at front (x ∷ back) p e)
    ∙ ap (splice q 0 (x ∷ [])) (splice_out p front x back e)

-- ---- the three cases

stays : {A : Type 0} (passes : A → Bool) (ordinal p : ℕ) (front : List A) (x : A) (back : List A) → passes x ≡ true → count passes front ≡ ordinal → length front ≡ p → move_nth passes ordinal ordinal (front ++ x ∷ back) ≡ moved p p (front ++ x ∷ back)
stays passes ordinal p front x back pass counted placed =
    let found = nth_is passes ordinal front x back counted pass in
    let same : nat_lt ordinal ordinal ≡ false = grind (arith, nat_tests) in
    rw (found, same) (sym (moved_at p p front x back placed ∙ splice_in p front x back placed))

goes_up : {A : Type 0} (passes : A → Bool) (low high p q : ℕ) (front : List A) (x : A) (middle : List A) (y : A) (back : List A) → passes x ≡ true → passes y ≡ true → count passes front ≡ low → count passes front + suc (count passes middle) ≡ high → length front ≡ p → length front + suc (length middle) ≡ q → move_nth passes low high (front ++ x ∷ (middle ++ y ∷ back)) ≡ moved p q (front ++ x ∷ (middle ++ y ∷ back))
goes_up passes low high p q front x middle y back first second counted counted_after placed placed_after =
    let found = nth_is passes low front x (middle ++ y ∷ back) counted first in
    let less : nat_lt low high ≡ true = grind (arith, nat_tests) in
    let start : move_nth passes low high (front ++ x ∷ (middle ++ y ∷ back)) ≡ after passes (high - 1) x (without passes low (front ++ x ∷ (middle ++ y ∷ back))) = rw (found, less) refl in
    let between : count passes (front ++ middle) ≡ high - 1 = omega (arith, count_append passes front middle) in
    let gone = from_nth_at passes (λ rest. drop 1 rest) low front x (middle ++ y ∷ back) counted first in
    let there = from_nth_at passes (λ rest. take 1 rest ++ x ∷ drop 1 rest) (high - 1) (front ++ middle) y back between second in
    let long : length ((front ++ middle) ++ y ∷ []) ≡ q = omega (arith, length-append (front ++ middle) (y ∷ []), length-append front middle) in
    let regrouped : (front ++ middle) ++ y ∷ [] ++ back ≡ front ++ (middle ++ y ∷ back) = append_assoc (front ++ middle) (y ∷ []) back ∙ append_assoc front middle (y ∷ back) in
    start
    ∙ ap (after passes (high - 1) x) (gone ∙ sym (append_assoc front middle (y ∷ back)))
    ∙ there
    ∙ sym (append_assoc (front ++ middle) (y ∷ []) (x ∷ back))
    ∙ sym (splice_in q ((front ++ middle) ++ y ∷ []) x back long)
    ∙ ap (splice q 0 (x ∷ [])) regrouped
    ∙ sym (moved_at p q front x (middle ++ y ∷ back) placed)

goes_down : {A : Type 0} (passes : A → Bool) (low high p q : ℕ) (front : List A) (y : A) (middle : List A) (x : A) (back : List A) → passes y ≡ true → passes x ≡ true → count passes front ≡ low → count passes front + suc (count passes middle) ≡ high → length front ≡ p → length front + suc (length middle) ≡ q → move_nth passes high low (front ++ y ∷ (middle ++ x ∷ back)) ≡ moved q p (front ++ y ∷ (middle ++ x ∷ back))
goes_down passes low high p q front y middle x back first second counted counted_after placed placed_after =
    let regrouped : front ++ y ∷ middle ++ x ∷ back ≡ front ++ y ∷ (middle ++ x ∷ back) = append_assoc front (y ∷ middle) (x ∷ back) in
    let counted_before : count passes (front ++ y ∷ middle) ≡ high = count_append passes front (y ∷ middle) ∙ ap (λ n. count passes front + n) (count_pass passes y middle first) ∙ counted_after in
    let found = nth_is passes high (front ++ y ∷ middle) x back counted_before second in
    let more : nat_lt high low ≡ false = grind (arith, nat_tests) in
    let less : nat_lt low high ≡ true = grind (arith, nat_tests) in
    let start : move_nth passes high low (front ++ y ∷ middle ++ x ∷ back) ≡ before passes low x (without passes high (front ++ y ∷ middle ++ x ∷ back)) = rw (found, more, less) refl in
    let gone = from_nth_at passes (λ rest. drop 1 rest) high (front ++ y ∷ middle) x back counted_before second in
    let there = from_nth_at passes (λ rest. x ∷ rest) low front y (middle ++ back) counted first in
    let long : length (front ++ y ∷ middle) ≡ q = length-append front (y ∷ middle) ∙ placed_after in
    ap (move_nth passes high low) (sym regrouped)
    ∙ start
    ∙ ap (before passes low x) (gone ∙ append_assoc front (y ∷ middle) back)
    ∙ there
    ∙ sym (splice_in p front x (y ∷ (middle ++ back)) placed)
    ∙ ap (splice p 0 (x ∷ [])) (sym (append_assoc front (y ∷ middle) back))
    ∙ sym (moved_at q p (front ++ y ∷ middle) x back long)
    ∙ ap (moved q p) regrouped

-- ---- any move

pub move_is : {A : Type 0} (passes : A → Bool) (from to p q : ℕ) (items : List A) → slice_get (positions_of passes items) from ≡ Some p → slice_get (positions_of passes items) to ≡ Some q → move_nth passes from to items ≡ moved p q items
move_is passes from to p q items first second =
    elim (cases_order from to) [
      | inl same ↦ (
          let at_one : slice_get (positions_of passes items) from ≡ Some q = ap (slice_get (positions_of passes items)) same ∙ second in
          let there : p ≡ q = cc in
          let a = apart_from passes 0 items from p first in
          let placed : length a.0.front ≡ p = let place = a.1 in omega arith in
          ap (λ k. move_nth passes from k items) (sym same)
          ∙ subst (λ xs. move_nth passes from from xs ≡ moved p p xs) (sym a.0.joined) (stays passes from p a.0.front a.0.item a.0.back a.0.counts a.0.ordinal_is placed)
          ∙ ap (λ k. moved p k items) there
          )
      | inr (inl less) ↦ (
          let t = two_apart passes from to p q items first second less in
          subst (λ xs. move_nth passes from to xs ≡ moved p q xs) (sym t.joined)
          (goes_up passes from to p q t.front t.first t.middle t.second t.back t.first_counts t.second_counts t.low_is t.high_is t.p_is t.q_is)
          )
      | inr (inr more) ↦ (
          let t = two_apart passes to from q p items second first more in
          subst (λ xs. move_nth passes from to xs ≡ moved p q xs) (sym t.joined)
          (goes_down passes to from q p t.front t.first t.middle t.second t.back t.first_counts t.second_counts t.low_is t.high_is t.p_is t.q_is)
          )
    ]

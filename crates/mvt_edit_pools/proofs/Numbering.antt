-- New ordinals by the marks of entries.
use Rattle.std.proofs.Common.{◌≡◌, ℕ, zero, suc, ◌+◌, ◌^◌, ◌<◌, ◌≤◌, Bool, true, false, List, [], ◌∷◌, ◌++◌, Some, slice_get, length, take, drop, min, get_or, cond, append_assoc, append-nil, refl, sym, ap, ◌∙◌, arith}
use Rattle.std.proofs.lemmas.List.{drop_all, drop_more, take_all}
use Rattle.mvt_meaning.specs.Compaction.{new_ordinal}
use Rattle.mvt_meaning.proofs.Compaction.{next_ordinal}
use Rattle.mvt_edit_pools.specs.Marks.{numbered_from, ordinals_by, stays_from}

-- the entry of an ordinal has the new one that it is to have
got_from : (stays : ℕ → Bool) (m count n : ℕ) → n < count → slice_get (numbered_from (new_ordinal stays m) (stays_from stays m count)) n ≡ Some (new_ordinal stays (m + n))
got_from stays m zero n below = absurd (omega arith)
got_from stays m (suc count) zero below = let e : m ≡ m + 0 = omega arith in ap (λ k. Some (new_ordinal stays k)) e
got_from stays m (suc count) (suc n) below =
    let e : m + 1 + n ≡ m + suc n = omega arith in
    ap (λ next. slice_get (numbered_from next (stays_from stays (m + 1) count)) n) (sym (next_ordinal stays m))
    ∙ got_from stays (m + 1) count n (omega arith)
    ∙ ap (λ k. Some (new_ordinal stays k)) e

-- the first entries alone have the new ordinals that they have among all
got_named : (next : ℕ) (marks : List Bool) (most n : ℕ) → n < most → slice_get (numbered_from next (take most marks)) n ≡ slice_get (numbered_from next marks) n
got_named next marks zero n named = absurd (omega arith)
got_named next [] (suc most) n named = refl
got_named next (stays ∷ marks) (suc most) zero named = refl
got_named next (stays ∷ marks) (suc most) (suc n) named = got_named (next + cond stays 1 0) marks most n (omega arith)

pub got_numbered : (stays : ℕ → Bool) (count n : ℕ) → n < count → n < 2 ^ 32 → slice_get (ordinals_by (stays_from stays 0 count)) n ≡ Some (new_ordinal stays n)
got_numbered stays count n below named =
    let e : 0 + n ≡ n = omega arith in
    got_named 0 (stays_from stays 0 count) (2 ^ 32) n named ∙ got_from stays 0 count n below ∙ ap (λ k. Some (new_ordinal stays k)) e

-- the first entries, where there may be fewer than that
pub first_named : (marks : List Bool) (most : ℕ) → take (min (length marks) most) marks ≡ take most marks
first_named [] most = take_all (min 0 most) [] (omega arith) ∙ sym (take_all most [] (omega arith))
first_named (stays ∷ marks) zero = let none : min (suc (length marks)) 0 ≡ 0 = omega arith in ap (λ n. take n (stays ∷ marks)) none
first_named (stays ∷ marks) (suc most) =
    let one : min (suc (length marks)) (suc most) ≡ suc (min (length marks) most) = omega arith in
    ap (λ n. take n (stays ∷ marks)) one ∙ ap (λ rest. stays ∷ rest) (first_named marks most)

-- one more entry
pub numbered_more : (marks : List Bool) (index : ℕ) (d : Bool) (front after all : List ℕ) (next following : ℕ) → index < length marks
    → front ++ numbered_from next (drop index marks) ≡ all → after ≡ front ++ next ∷ [] → following ≡ next + cond (get_or marks index d) 1 0 → after ++ numbered_from following (drop (index + 1) marks) ≡ all
numbered_more marks index d front after all next following inside so_far put counts =
    let rest = drop (index + 1) marks in
    ap (λ list. list ++ numbered_from following rest) put
    ∙ append_assoc front (next ∷ []) (numbered_from following rest)
    ∙ ap (λ n. front ++ next ∷ numbered_from n rest) counts
    ∙ ap (λ list. front ++ numbered_from next list) (sym (drop_more marks index d inside))
    ∙ so_far

-- no more than one more
pub one_at_most : (stays : Bool) (next following index : ℕ) → next ≤ index → following ≡ next + cond stays 1 0 → following ≤ index + 1
one_at_most true next following index few counts = omega (arith, few, counts)
one_at_most false next following index few counts = omega (arith, few, counts)

-- no entry is left
pub numbered_all : (marks : List Bool) (index : ℕ) (front all : List ℕ) (next : ℕ) → length marks ≤ index → front ++ numbered_from next (drop index marks) ≡ all → front ≡ all
numbered_all marks index front all next past so_far =
    sym (append-nil front) ∙ ap (λ list. front ++ numbered_from next list) (sym (drop_all index marks past)) ∙ so_far

-- A list with a part replaced or an item moved: what leads back, its length, and its items.
use Rattle.std.proofs.Common.{◌≡◌, ℕ, ◌+◌, ◌<◌, ◌≤◌, List, [], ◌++◌, length, length-append, length-drop, take, drop, sym, ap, ◌∙◌, arith}
use Rattle.std.proofs.lemmas.List.{length-take-le}
use Rattle.std.specs.List.{AllByRecursion}
use Rattle.mvt_document.specs.Splicing.{part, splice, moved}
use Rattle.mvt_document.specs.Lists.{CanSplice, CanMove}
use Rattle.mvt_document.proofs.EachItem.{all_dropped, all_joined, all_taken}
use Rattle.mvt_document.proofs.Exchanged.{part-splice}
use Rattle.mvt_splices.proofs.Backwards.{splice-back}

pub length-part : {A : Type 0} (index count : ℕ) (items : List A) → index + count ≤ length items → length (part index count items) ≡ count
length-part index count items within = length-take-le count (drop index items) (omega (arith, length-drop index items))

pub length-splice : {A : Type 0} (index taken : ℕ) (put items : List A) → index + taken ≤ length items → length (splice index taken put items) + taken ≡ length items + length put
length-splice index taken put items within =
    omega (arith, length-append (take index items ++ put) (drop (index + taken) items), length-append (take index items) put, length-take-le index items (omega arith), length-drop (index + taken) items)

-- ---- an item that moves

-- the list without the item
abbrev pub without : {A : Type 0} → ℕ → List A → List A
without from items = splice from 1 [] items

length-without : {A : Type 0} (from : ℕ) (items : List A) → from < length items → length (without from items) + 1 ≡ length items
length-without from items there = omega (arith, length-splice from 1 [] items (omega arith))

pub length-moved : {A : Type 0} (from to : ℕ) (items : List A) → CanMove from to items → length (moved from to items) ≡ length items
length-moved from to items can =
    let rest = length-without from items can.there in
    omega (arith, rest, length-splice to 0 (part from 1 items) (without from items) (omega (arith, rest, can.within)), length-part from 1 items (omega (arith, can.there)))

part-moved : {A : Type 0} (from to : ℕ) (items : List A) → CanMove from to items → part to 1 (moved from to items) ≡ part from 1 items
part-moved from to items can =
    let one = length-part from 1 items (omega (arith, can.there)) in
    ap (λ n. part to n (moved from to items)) (sym one) ∙ part-splice to 0 (part from 1 items) (without from items) (omega (arith, length-without from items can.there, can.within))

without-moved : {A : Type 0} (from to : ℕ) (items : List A) → CanMove from to items → without to (moved from to items) ≡ without from items
without-moved from to items can =
    let one : length (part from 1 items) ≡ 1 = length-part from 1 items (omega (arith, can.there)) in
    ap (λ n. splice to n [] (moved from to items)) (sym one)
    ∙ splice-back to 0 (part from 1 items) (without from items) (omega (arith, length-without from items can.there, can.within))

pub moved-back : {A : Type 0} (from to : ℕ) (items : List A) → CanMove from to items → moved to from (moved from to items) ≡ items
moved-back from to items can =
    let there : from < length items = can.there in
    ap (λ item. splice from 0 item (without to (moved from to items))) (part-moved from to items can)
    ∙ ap (λ rest. splice from 0 (part from 1 items) rest) (without-moved from to items can)
    ∙ splice-back from 1 [] items (omega arith)

-- ---- what holds for each item

pub all_part : {A : Type 0} (P : A → Type 0) (index count : ℕ) (items : List A) → AllByRecursion P items → AllByRecursion P (part index count items)
all_part P index count items all = all_taken P count (drop index items) (all_dropped P index items all)

pub all_splice : {A : Type 0} (P : A → Type 0) (index taken : ℕ) (put items : List A) → AllByRecursion P put → AllByRecursion P items → AllByRecursion P (splice index taken put items)
all_splice P index taken put items new all =
    all_joined P (take index items ++ put) (drop (index + taken) items) (all_joined P (take index items) put (all_taken P index items all) new) (all_dropped P (index + taken) items all)

pub all_moved : {A : Type 0} (P : A → Type 0) (from to : ℕ) (items : List A) → AllByRecursion P items → AllByRecursion P (moved from to items)
all_moved P from to items all =
    all_splice P to 0 (part from 1 items) (without from items) (all_part P from 1 items all) (all_splice P from 1 [] items tt all)

-- ---- a step on a list fits again, turned

pub can_splice_back : {A : Type 0} (P : A → Type 0) (index taken : ℕ) (put items : List A) → AllByRecursion P items → CanSplice P index taken put items → CanSplice P index (length put) (part index taken items) (splice index taken put items)
can_splice_back P index taken put items all can =
    record { within = omega (arith, length-splice index taken put items can.within); valid_put = all_part P index taken items all }

pub can_move_back : {A : Type 0} (from to : ℕ) (items : List A) → CanMove from to items → CanMove to from (moved from to items)
can_move_back from to items can =
    let long = length-moved from to items can in
    record { there = omega (arith, long, can.within); within = omega (arith, long, can.there) }

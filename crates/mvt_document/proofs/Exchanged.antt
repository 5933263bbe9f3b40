-- Lists whose items change places.
use Rattle.std.proofs.Common.{◌≡◌, ℕ, ◌+◌, ◌-◌, ◌<◌, ◌≤◌, List, [], ◌∷◌, ◌++◌, length, set, length-append, length-drop, take, drop, take-append-drop, get_or, drop-cons, append_assoc, refl, sym, ap, ◌∙◌, arith}
use Rattle.std.proofs.lemmas.List.{append-nil, length-take-le, take_all, take_at, drop_all, drop_at, drop-drop, drop-take, take-take, take-set, drop-set}
use borrow.Rule.Slice.PartMut.{put_mid}
use Rattle.mvt_document.specs.Splicing.{moved, part, splice}

-- a part that was moved to the end is what is there
pub part_after : {A : Type 0} (index count left : ℕ) (items turned : List A) → turned ≡ take index items ++ (drop (index + count) items ++ part index count items) → index + count ≤ length items → left + count ≡ length items → drop left turned ≡ part index count items
part_after index count left items turned is within rest =
    let front : length (take index items ++ drop (index + count) items) ≡ left =
    omega (arith, length-append (take index items) (drop (index + count) items), length-take-le index items (omega arith), length-drop (index + count) items) in
    ap (drop left) (is ∙ sym (append_assoc (take index items) (drop (index + count) items) (part index count items)))
    ∙ drop_at (take index items ++ drop (index + count) items) (part index count items) left front

-- what was put in is where it was put
pub part-splice : {A : Type 0} (index taken : ℕ) (put items : List A) → index ≤ length items → part index (length put) (splice index taken put items) ≡ put
part-splice index taken put items within =
    rw (append_assoc, drop_at (take index items) (put ++ drop (index + taken) items) index (length-take-le index items within)) (take_at put (drop (index + taken) items) (length put) refl)

take_more_items : {A : Type 0} (n m : ℕ) (items : List A) → take n items ++ take m (drop n items) ≡ take (n + m) items
take_more_items n m items =
    ap (λ front. front ++ take m (drop n items)) (sym (take-take n (n + m) items (omega arith)))
    ∙ ap (λ rest. take n (take (n + m) items) ++ rest) (sym (drop-take n m items))
    ∙ take-append-drop n (take (n + m) items)

-- ---- one item is put for one that is taken

pub set_one : {A : Type 0} (index : ℕ) (list : List A) (item : A) → index < length list → set list index item ≡ splice index 1 (item ∷ []) list
set_one index list item within =
    sym (take-append-drop index (set list index item))
    ∙ ap (λ front. front ++ drop index (set list index item)) (take-set list index item)
    ∙ ap (λ rest. take index list ++ rest) (drop-set list index item within)
    ∙ sym (append_assoc (take index list) (item ∷ []) (drop (index + 1) list))

pub one_alone : {A : Type 0} (item : A) (items : List A) → length items ≡ 1 → item ≡ get_or items 0 item → item ∷ [] ≡ items
one_alone item [] one is = absurd (omega (arith, one))
one_alone item (x ∷ []) one is = ap (λ first. first ∷ []) is
one_alone item (x ∷ y ∷ items) one is = absurd (omega (arith, one))

pub set_alone : {A : Type 0} (item x : A) (items : List A) → length items ≡ 1 → x ≡ item → set items 0 x ≡ item ∷ []
set_alone item x [] one is = absurd (omega (arith, one))
set_alone item x (y ∷ []) one is = ap (λ first. first ∷ []) is
set_alone item x (y ∷ z ∷ items) one is = absurd (omega (arith, one))

-- one item is taken
pub part_one : {A : Type 0} (index taken : ℕ) (list : List A) (item : A) → taken ≡ 1 → index < length list → item ≡ get_or list index item → item ∷ [] ≡ part index taken list
part_one index taken list item one within is =
    ap (λ first. first ∷ []) is
    ∙ sym (ap (take 1) (drop-cons list index item within))
    ∙ ap (λ n. part index n list) (sym one)

-- one item is taken, and none is put
pub none_for_one : {A : Type 0} (index taken : ℕ) (list put left : List A) → taken ≡ 1 → [] ≡ put → left ≡ take index list ++ drop (index + 1) list → left ≡ splice index taken put list
none_for_one index taken list put left one none is =
    is
    ∙ ap (λ front. front ++ drop (index + 1) list) (sym (append-nil (take index list)))
    ∙ ap (λ none. splice index 1 none list) none
    ∙ ap (λ n. splice index n put list) (sym one)

-- ---- fewer items are put than are taken: some change places, and the others that are taken follow

pub fewer_list : {A : Type 0} (index taken given : ℕ) (list put swapped : List A) → given ≡ length put → given ≤ taken → index + taken ≤ length list → swapped ≡ splice index given (take given put) list → take (index + given) swapped ++ drop (index + given + (taken - given)) swapped ≡ splice index taken put list
fewer_list index taken given list put swapped all fewer within is =
    let whole : take given put ≡ put = take_all given put (omega arith) in
    let long : length (take index list ++ put) ≡ index + given = omega (arith, length-append (take index list) put, length-take-le index list (omega arith)) in
    let same : swapped ≡ take index list ++ put ++ drop (index + given) list = is ∙ ap (λ front. take index list ++ front ++ drop (index + given) list) whole in
    let front : take (index + given) swapped ≡ take index list ++ put = ap (take (index + given)) same ∙ take_at (take index list ++ put) (drop (index + given) list) (index + given) long in
    let following : drop (index + given) swapped ≡ drop (index + given) list = ap (drop (index + given)) same ∙ drop_at (take index list ++ put) (drop (index + given) list) (index + given) long in
    let sum : index + given + (taken - given) ≡ index + taken = omega arith in
    let rest : drop (index + given + (taken - given)) swapped ≡ drop (index + taken) list =
    sym (drop-drop (taken - given) (index + given) swapped) ∙ ap (drop (taken - given)) following ∙ drop-drop (taken - given) (index + given) list ∙ ap (λ n. drop n list) sum in
    ap (λ x. x ++ drop (index + given + (taken - given)) swapped) front ∙ ap (λ x. take index list ++ put ++ x) rest

pub fewer_put : {A : Type 0} (index taken given : ℕ) (list put swapped got : List A) → given ≡ length put → given ≤ taken → index + taken ≤ length list → swapped ≡ splice index given (take given put) list → got ≡ part index given list ++ drop given put → got ++ part (index + given) (taken - given) swapped ≡ part index taken list
fewer_put index taken given list put swapped got all fewer within is got_is =
    let whole : take given put ≡ put = take_all given put (omega arith) in
    let long : length (take index list ++ put) ≡ index + given = omega (arith, length-append (take index list) put, length-take-le index list (omega arith)) in
    let same : swapped ≡ take index list ++ put ++ drop (index + given) list = is ∙ ap (λ front. take index list ++ front ++ drop (index + given) list) whole in
    let following : drop (index + given) swapped ≡ drop given (drop index list) = ap (drop (index + given)) same ∙ drop_at (take index list ++ put) (drop (index + given) list) (index + given) long ∙ sym (drop-drop given index list) in
    let none : drop given put ≡ [] = drop_all given put (omega arith) in
    let first : got ≡ part index given list = got_is ∙ ap (λ x. part index given list ++ x) none ∙ append-nil (part index given list) in
    let sum : given + (taken - given) ≡ taken = omega arith in
    ap (λ x. x ++ part (index + given) (taken - given) swapped) first
    ∙ ap (λ x. part index given list ++ take (taken - given) x) following
    ∙ take_more_items given (taken - given) (drop index list)
    ∙ ap (λ n. take n (drop index list)) sum

-- ---- an item that moves

-- a prefix, an item, the items that it goes past, and those after them
pub moved_on : {A : Type 0} (a x b c : List A) (from to : ℕ) → length x ≡ 1 → from ≡ length a → to ≡ from + length b → moved from to (a ++ (x ++ (b ++ c))) ≡ a ++ (b ++ (x ++ c))
moved_on a x b c from to one start stop =
    let whole = a ++ (x ++ (b ++ c)) in
    let item : part from 1 whole ≡ x = ap (take 1) (drop_at a (x ++ (b ++ c)) from (sym start)) ∙ take_at x (b ++ c) 1 one in
    let longer : length (a ++ x) ≡ from + 1 = omega (arith, length-append a x, one, start) in
    let rest : drop (from + 1) whole ≡ b ++ c = ap (drop (from + 1)) (sym (append_assoc a x (b ++ c))) ∙ drop_at (a ++ x) (b ++ c) (from + 1) longer in
    let front : take from whole ≡ a = take_at a (x ++ (b ++ c)) from (sym start) in
    let left : splice from 1 [] whole ≡ (a ++ b) ++ c =
    ap (λ y. y ++ [] ++ drop (from + 1) whole) front ∙ ap (λ y. a ++ [] ++ y) rest ∙ ap (λ y. y ++ (b ++ c)) (append-nil a) ∙ sym (append_assoc a b c) in
    let long : length (a ++ b) ≡ to = omega (arith, length-append a b, start, stop) in
    let zero_more : to + 0 ≡ to = omega arith in
    ap (λ y. splice to 0 y (splice from 1 [] whole)) item
    ∙ ap (λ y. splice to 0 x y) left
    ∙ ap (λ y. y ++ x ++ drop (to + 0) ((a ++ b) ++ c)) (take_at (a ++ b) c to long)
    ∙ ap (λ n. (a ++ b) ++ x ++ drop n ((a ++ b) ++ c)) zero_more
    ∙ ap (λ y. (a ++ b) ++ x ++ y) (drop_at (a ++ b) c to long)
    ∙ append_assoc (a ++ b) x c
    ∙ append_assoc a b (x ++ c)

pub moved_up : {A : Type 0} (a b x c : List A) (from to : ℕ) → length x ≡ 1 → to ≡ length a → from ≡ to + length b → moved from to (a ++ (b ++ (x ++ c))) ≡ a ++ (x ++ (b ++ c))
moved_up a b x c from to one start stop =
    let whole = a ++ (b ++ (x ++ c)) in
    let long : length (a ++ b) ≡ from = omega (arith, length-append a b, start, stop) in
    let same : whole ≡ (a ++ b) ++ (x ++ c) = sym (append_assoc a b (x ++ c)) in
    let item : part from 1 whole ≡ x = ap (part from 1) same ∙ ap (take 1) (drop_at (a ++ b) (x ++ c) from long) ∙ take_at x c 1 one in
    let longer : length ((a ++ b) ++ x) ≡ from + 1 = omega (arith, length-append (a ++ b) x, one, long) in
    let rest : drop (from + 1) whole ≡ c = ap (drop (from + 1)) (same ∙ sym (append_assoc (a ++ b) x c)) ∙ drop_at ((a ++ b) ++ x) c (from + 1) longer in
    let front : take from whole ≡ a ++ b = ap (take from) same ∙ take_at (a ++ b) (x ++ c) from long in
    let left : splice from 1 [] whole ≡ a ++ (b ++ c) =
    ap (λ y. y ++ [] ++ drop (from + 1) whole) front ∙ ap (λ y. (a ++ b) ++ [] ++ y) rest ∙ ap (λ y. y ++ c) (append-nil (a ++ b)) ∙ append_assoc a b c in
    let zero_more : to + 0 ≡ to = omega arith in
    ap (λ y. splice to 0 y (splice from 1 [] whole)) item
    ∙ ap (λ y. splice to 0 x y) left
    ∙ ap (λ y. y ++ x ++ drop (to + 0) (a ++ (b ++ c))) (take_at a (b ++ c) to (sym start))
    ∙ ap (λ n. a ++ x ++ drop n (a ++ (b ++ c))) zero_more
    ∙ ap (λ y. a ++ x ++ y) (drop_at a (b ++ c) to (sym start))
    ∙ append_assoc a x (b ++ c)

-- a range of a list in three pieces: before it, a part of it, the rest of it, and what is after it
pieces : {A : Type 0} (at first second : ℕ) (items : List A) → items ≡ take at items ++ (take first (drop at items) ++ (take second (drop first (drop at items)) ++ drop second (drop first (drop at items))))
pieces at first second items =
    sym (take-append-drop at items)
    ∙ ap (λ y. take at items ++ y) (sym (take-append-drop first (drop at items)) ∙ ap (λ y. take first (drop at items) ++ y) (sym (take-append-drop second (drop first (drop at items)))))

-- a range rotated by one is an item moved on
pub turned_left : {A : Type 0} (from to : ℕ) (items : List A) → from ≤ to → to < length items
    → put_mid from (to + 1 - from) items (drop 1 (take (to + 1 - from) (drop from items)) ++ take 1 (take (to + 1 - from) (drop from items))) ≡ moved from to items
turned_left from to items low within =
    let n = to - from in
    let rest = drop from items in
    let more : to + 1 - from ≡ 1 + n = omega arith in
    let long : length rest ≡ length items - from = length-drop from items in
    let following : length (drop 1 rest) ≡ length items - from - 1 = length-drop 1 rest ∙ ap (λ k. k - 1) long in
    let one : length (take 1 rest) ≡ 1 = length-take-le 1 rest (omega arith) in
    let start : length (take from items) ≡ from = length-take-le from items (omega arith) in
    let past : length (take n (drop 1 rest)) ≡ n = length-take-le n (drop 1 rest) (omega arith) in
    let stop : to ≡ from + length (take n (drop 1 rest)) = omega arith in
    ap (λ k. put_mid from k items (drop 1 (take k rest) ++ take 1 (take k rest))) more
    ∙ ap (λ y. take from items ++ ((y ++ take 1 (take (1 + n) rest)) ++ drop (1 + n) rest)) (drop-take 1 n rest)
    ∙ ap (λ y. take from items ++ ((take n (drop 1 rest) ++ y) ++ drop (1 + n) rest)) (take-take 1 (1 + n) rest (omega arith))
    ∙ ap (λ y. take from items ++ ((take n (drop 1 rest) ++ take 1 rest) ++ y)) (sym (drop-drop n 1 rest))
    ∙ ap (λ y. take from items ++ y) (append_assoc (take n (drop 1 rest)) (take 1 rest) (drop n (drop 1 rest)))
    ∙ sym (moved_on (take from items) (take 1 rest) (take n (drop 1 rest)) (drop n (drop 1 rest)) from to one (sym start) stop)
    ∙ ap (moved from to) (sym (pieces from 1 n items))

pub turned_right : {A : Type 0} (from to : ℕ) (items : List A) → to < from → from < length items
    → put_mid to (from + 1 - to) items (drop (from - to) (take (from + 1 - to) (drop to items)) ++ take (from - to) (take (from + 1 - to) (drop to items))) ≡ moved from to items
turned_right from to items low within =
    let n = from - to in
    let rest = drop to items in
    let more : from + 1 - to ≡ n + 1 = omega arith in
    let long : length rest ≡ length items - to = length-drop to items in
    let following : length (drop n rest) ≡ length items - to - n = length-drop n rest ∙ ap (λ k. k - n) long in
    let one : length (take 1 (drop n rest)) ≡ 1 = length-take-le 1 (drop n rest) (omega arith) in
    let start : length (take to items) ≡ to = length-take-le to items (omega arith) in
    let past : length (take n rest) ≡ n = length-take-le n rest (omega arith) in
    let stop : from ≡ to + length (take n rest) = omega arith in
    ap (λ k. put_mid to k items (drop n (take k rest) ++ take n (take k rest))) more
    ∙ ap (λ y. take to items ++ ((y ++ take n (take (n + 1) rest)) ++ drop (n + 1) rest)) (drop-take n 1 rest)
    ∙ ap (λ y. take to items ++ ((take 1 (drop n rest) ++ y) ++ drop (n + 1) rest)) (take-take n (n + 1) rest (omega arith))
    ∙ ap (λ y. take to items ++ ((take 1 (drop n rest) ++ take n rest) ++ y)) (sym (drop-drop 1 n rest))
    ∙ ap (λ y. take to items ++ y) (append_assoc (take 1 (drop n rest)) (take n rest) (drop 1 (drop n rest)))
    ∙ sym (moved_up (take to items) (take n rest) (take 1 (drop n rest)) (drop 1 (drop n rest)) from to one (sym start) stop)
    ∙ ap (moved from to) (sym (pieces to n 1 items))

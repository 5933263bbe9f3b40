-- A list in a ring, which begins after a gap and ends before it.
use Rattle.std.proofs.Common.{◌≡◌, ℕ, suc, ◌+◌, ◌-◌, ◌<◌, ◌≤◌, List, [], ◌∷◌, ◌++◌, length, length-append, length-drop, length-take, take, drop, append_assoc, take-append-drop, refl, sym, ap, ◌∙◌, arith}
use Rattle.std.specs.Prelude.{Option, Some, None, IsSome, option_to_list}
use Rattle.std.proofs.lemmas.List.{drop-append-le, drop-drop, drop_at, length-take-le, take_at, take-append-le, take-take}
use Rattle.mvt_document.specs.Splicing.{part, splice}
use Rattle.mvt_document.proofs.Lists.{take_sum}

-- ---- the gap goes to an index

-- the list of a ring whose first `following` items are after the gap
abbrev pub unrolled : {A : Type 0} → ℕ → List A → List A
unrolled following ring = drop following ring ++ take following ring

take_past : {A : Type 0} (n : ℕ) (xs ys : List A) → take (length xs + n) (xs ++ ys) ≡ xs ++ take n ys
take_past n [] ys = ap (λ k. take k ys) (omega arith)
take_past n (x ∷ xs) ys =
    let more : length (x ∷ xs) + n ≡ suc (length xs + n) = omega arith in
    ap (λ k. take k (x ∷ (xs ++ ys))) more ∙ ap (λ rest. x ∷ rest) (take_past n xs ys)

drop_past : {A : Type 0} (n : ℕ) (xs ys : List A) → drop (length xs + n) (xs ++ ys) ≡ drop n ys
drop_past n xs ys = sym (drop-drop n (length xs) (xs ++ ys)) ∙ ap (drop n) (drop_at xs ys (length xs) refl)

-- .. that is before it
pub turned_back : {A : Type 0} (following index : ℕ) (ring : List A) → following + index ≤ length ring → drop (following + index) ring ++ take (following + index) ring ≡ drop index (unrolled following ring) ++ take index (unrolled following ring)
turned_back following index ring within =
    let front = drop following ring in
    let back = take following ring in
    let there : index ≤ length front = omega (arith, length-drop following ring) in
    ap (λ rest. drop (following + index) ring ++ rest) (take_sum following index ring)
    ∙ sym (append_assoc (drop (following + index) ring) back (take index front))
    ∙ ap (λ rest. (rest ++ back) ++ take index front) (sym (drop-drop index following ring))
    ∙ ap (λ rest. rest ++ take index front) (sym (drop-append-le index front back there))
    ∙ ap (λ rest. drop index (front ++ back) ++ rest) (sym (take-append-le index front back there))

-- .. that is after it
pub turned_on : {A : Type 0} (following count index : ℕ) (ring : List A) → following ≤ length ring → count ≤ following → index + following ≡ length ring + count → drop count ring ++ take count ring ≡ drop index (unrolled following ring) ++ take index (unrolled following ring)
turned_on following count index ring within few is =
    let front = drop following ring in
    let back = take following ring in
    let sum : length front + count ≡ index = omega (arith, length-drop following ring) in
    let there : count ≤ length back = omega (arith, length-take-le following ring within) in
    ap (λ items. drop count items ++ take count ring) (sym (take-append-drop following ring))
    ∙ ap (λ rest. rest ++ take count ring) (drop-append-le count back front there)
    ∙ append_assoc (drop count back) front (take count ring)
    ∙ ap (λ rest. drop count back ++ (front ++ rest)) (sym (take-take count following ring few))
    ∙ ap (λ rest. rest ++ (front ++ take count back)) (sym (drop_past count front back))
    ∙ ap (λ rest. drop (length front + count) (front ++ back) ++ rest) (sym (take_past count front back))
    ∙ ap (λ n. drop n (front ++ back) ++ take n (front ++ back)) sum

-- an item comes after the gap, which goes to an index
pub put_after : {A : Type 0} (count index taken : ℕ) (put items : List A) → count ≡ length items → index + taken ≤ length items → taken ≡ 0 → length put ≡ 1 → unrolled (count - index - taken + 1) (put ++ (drop index items ++ take index items)) ≡ splice index taken put items
put_after count index taken put items all there none one =
    let following = count - index - taken + 1 in
    let front = put ++ drop index items in
    let back = take index items in
    let is : length front ≡ following = omega (arith, all, there, none, one, length-append put (drop index items), length-drop index items) in
    let same : index ≡ index + taken = omega (arith, none) in
    ap (unrolled following) (sym (append_assoc put (drop index items) back))
    ∙ ap (λ xs. xs ++ take following (front ++ back)) (drop_at front back following is)
    ∙ ap (λ xs. back ++ xs) (take_at front back following is)
    ∙ sym (append_assoc back put (drop index items))
    ∙ ap (λ n. (back ++ put) ++ drop n items) same

-- the first items after it go, and others come last
pub put_exchanged : {A : Type 0} (count index taken : ℕ) (put items : List A) → count ≡ length items → index + taken ≤ length items → unrolled (count - index - taken) (drop taken (drop index items ++ take index items) ++ put) ≡ splice index taken put items
put_exchanged count index taken put items all there =
    let following = count - index - taken in
    let front = take index items in
    let rest = drop (index + taken) items in
    let within : taken ≤ length (drop index items) = omega (arith, there, length-drop index items) in
    let left : length rest ≡ following = omega (arith, all, there, length-drop (index + taken) items) in
    let first : drop taken (drop index items ++ front) ≡ rest ++ front = drop-append-le taken (drop index items) front within ∙ ap (λ xs. xs ++ front) (drop-drop taken index items) in
    ap (λ list. unrolled following (list ++ put)) first
    ∙ ap (unrolled following) (append_assoc rest front put)
    ∙ ap (λ xs. xs ++ take following (rest ++ (front ++ put))) (drop_at rest (front ++ put) following left)
    ∙ ap (λ xs. (front ++ put) ++ xs) (take_at rest (front ++ put) following left)

pub part_after : {A : Type 0} (index taken : ℕ) (items : List A) → index + taken ≤ length items → take taken (drop index items ++ take index items) ≡ part index taken items
part_after index taken items there = take-append-le taken (drop index items) (take index items) (omega (arith, there, length-drop index items))

-- the list has as many items as its ring
pub length_unrolled : {A : Type 0} (following : ℕ) (ring : List A) → length (unrolled following ring) ≡ length ring
length_unrolled following ring = omega (arith, length-append (drop following ring) (take following ring), length-drop following ring, length-take following ring)

-- .. and its room is that of the ring: it stays the same together with the items if some of them are exchanged
pub room_unrolled : {A : Type 0} (before following taken given count left capacity room : ℕ) (ring new items : List A) → count ≡ length ring → left ≡ length new → unrolled before ring ≡ items → capacity - count ≡ room → count ≤ capacity → taken ≤ length items → given ≤ room + taken → left + taken ≡ count + given → length (unrolled following new) + (capacity - left) ≡ length items + room
room_unrolled before following taken given count left capacity room ring new items counted leaves seen is within there fits changed =
    omega (arith, length_unrolled following new, length_unrolled before ring, ap length seen, counted, leaves, is, within, there, fits, changed)

-- ---- the first items of a ring change places with others

pub put_traded : {A : Type 0} (given taken common : ℕ) (ring put : List A) → length put ≡ given → taken ≤ length ring → common ≤ given → common ≤ taken → drop (given - common) ((drop common put ++ take common ring) ++ take (taken - common) (drop common ring ++ take common put)) ≡ take taken ring
put_traded given taken common ring put all there few also =
    let rest = take (taken - common) (drop common ring ++ take common put) in
    let left : length (drop common put) ≡ given - common = omega (arith, length-drop common put) in
    let sum : common + (taken - common) ≡ taken = omega arith in
    ap (drop (given - common)) (append_assoc (drop common put) (take common ring) rest)
    ∙ drop_at (drop common put) (take common ring ++ rest) (given - common) left
    ∙ ap (λ items. take common ring ++ items) (take-append-le (taken - common) (drop common ring) (take common put) (omega (arith, length-drop common ring)))
    ∙ sym (take_sum common (taken - common) ring)
    ∙ ap (λ n. take n ring) sum

-- ---- items go one by one

-- the first item goes, and comes last in another list
pub passed : {A : Type 0} (left n : ℕ) (old rest to : List A) (item : A) → left ≡ suc n → old ≡ item ∷ rest → (drop n rest ≡ drop left old) × ((to ++ item ∷ []) ++ take n rest ≡ to ++ take left old)
passed left n old rest to item more at = (
  ap (λ k. drop k (item ∷ rest)) (sym more) ∙ ap (drop left) (sym at),
  append_assoc to (item ∷ []) (take n rest) ∙ ap (λ k. to ++ take k (item ∷ rest)) (sym more) ∙ ap (λ items. to ++ take left items) (sym at),
)

-- the first item goes, and the first one of another list, or of the same, comes last
pub traded : {A : Type 0} (left n : ℕ) (old rest other following : List A) (item new : A) → left ≡ suc n → old ≡ item ∷ rest → other ≡ new ∷ following → n ≤ length rest → n ≤ length following → drop n (rest ++ new ∷ []) ++ take n (following ++ item ∷ []) ≡ drop left old ++ take left other
traded left n old rest other following item new more at beside within also =
    ap (λ front. front ++ take n (following ++ item ∷ [])) (drop-append-le n rest (new ∷ []) within)
    ∙ ap (λ back. (drop n rest ++ new ∷ []) ++ back) (take-append-le n following (item ∷ []) also)
    ∙ append_assoc (drop n rest) (new ∷ []) (take n following)
    ∙ ap (λ k. drop k (item ∷ rest) ++ take k (new ∷ following)) (sym more)
    ∙ ap (λ items. drop left items ++ take left (new ∷ following)) (sym at)
    ∙ ap (λ items. drop left old ++ take left items) (sym beside)

-- ---- what a ring has room for

-- once the gap is moved, what is taken out is there, and there is room for what is put
pub fits_moved : {A : Type 0} (before index taken given count capacity room moved held : ℕ) (ring items : List A) → count ≡ length ring → unrolled before ring ≡ items → capacity - count ≡ room → count ≤ capacity → index + taken ≤ length items → given ≤ room + taken → moved ≡ count → held ≡ capacity → (taken ≤ moved) × (moved + given ≤ held + taken)
fits_moved before index taken given count capacity room moved held ring items counted seen is within there fits same also =
    let all : count ≡ length items = counted ∙ sym (length_unrolled before ring) ∙ ap length seen in
    (omega (arith, all, there, same), omega (arith, is, within, fits, same, also))

pub one_fits : (taken given moved held : ℕ) → moved + given ≤ held + taken → taken ≡ 0 → given ≡ 1 → moved < held
one_fits taken given moved held fits none one = omega (arith, fits, none, one)

pub one_more : (taken given moved left count : ℕ) → left ≡ moved + 1 → moved ≡ count → taken ≡ 0 → given ≡ 1 → left + taken ≡ count + given
one_more taken given moved left count more same none one = omega (arith, more, same, none, one)

-- the one item that is popped is the first
pub popped : {A : Type 0} (count : ℕ) (old rest : List A) (first : Option A) → old ≡ option_to_list first ++ rest → IsSome first → count ≡ 1 → option_to_list first ≡ take count old
popped count old rest None is some one = absurd cc
popped count old rest (Some x) is some one = ap (take 1) (sym is) ∙ ap (λ n. take n old) (sym one)

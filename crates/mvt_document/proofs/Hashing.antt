-- The hashes of the items at the front of a list: fewer, one more, and those of the list once it is changed.
use Rattle.std.proofs.Common.{◌≡◌, ℕ, zero, suc, ◌+◌, ◌<◌, ◌≤◌, List, [], ◌∷◌, ◌++◌, length, length-drop, take, drop, take-append-drop, get_or, map, refl, sym, ap, ◌∙◌, subst, append_assoc, arith}
use Rattle.std.specs.Prelude.{slice_set}
use Rattle.std.proofs.lemmas.List.{drop-append-le, drop-map, length-map, length-take, take-append-le, take-map, take_all}
use Rattle.mvt_document.specs.Hashes.{AreHashes}
use Rattle.mvt_document.specs.Splicing.{moved, part, splice}
use Rattle.mvt_document.proofs.Running.{left_length, spliced_values}

module _ {T : Type 0} (f : T → ℕ) where
  -- a list that has hashes has items
  none_left : (h : ℕ) (hashes : List ℕ) → AreHashes f (h ∷ hashes) [] → ⊥
  none_left h hashes is = omega (arith, ap length is)

  rest_of : (h : ℕ) (hashes : List ℕ) (x : T) (items : List T) → AreHashes f (h ∷ hashes) (x ∷ items) → AreHashes f hashes items
  rest_of h hashes x items is = ap (drop 1) is

  first_of : (h : ℕ) (hashes : List ℕ) (x : T) (items : List T) → AreHashes f (h ∷ hashes) (x ∷ items) → h ≡ f x
  first_of h hashes x items is = ap (λ all. get_or all 0 0) is

  both : (h : ℕ) (hashes : List ℕ) (x : T) (items : List T) → h ≡ f x → AreHashes f hashes items → AreHashes f (h ∷ hashes) (x ∷ items)
  both h hashes x items first rest = ap (λ k. k ∷ hashes) first ∙ ap (λ all. f x ∷ all) rest

  pub few_hashes : (hashes : List ℕ) (items : List T) → AreHashes f hashes items → length hashes ≤ length items
  few_hashes [] items is = omega arith
  few_hashes (h ∷ hashes) [] is = absurd (none_left h hashes is)
  few_hashes (h ∷ hashes) (x ∷ items) is = omega (arith, few_hashes hashes items (rest_of h hashes x items is))

  pub cut_so : (count : ℕ) (hashes : List ℕ) (items : List T) → AreHashes f hashes items → AreHashes f (take count hashes) items
  cut_so zero hashes items is = refl
  cut_so (suc count) [] items is = refl
  cut_so (suc count) (h ∷ hashes) [] is = absurd (none_left h hashes is)
  cut_so (suc count) (h ∷ hashes) (x ∷ items) is = both h (take count hashes) x items (first_of h hashes x items is) (cut_so count hashes items (rest_of h hashes x items is))

  pub set_so : (index : ℕ) (y : T) (hashes : List ℕ) (items : List T) → AreHashes f hashes items → AreHashes f (slice_set hashes index (f y)) (slice_set items index y)
  set_so index y [] items is = refl
  set_so index y (h ∷ hashes) [] is = absurd (none_left h hashes is)
  set_so zero y (h ∷ hashes) (x ∷ items) is = both (f y) hashes y items refl (rest_of h hashes x items is)
  set_so (suc index) y (h ∷ hashes) (x ∷ items) is = both h (slice_set hashes index (f y)) x (slice_set items index y) (first_of h hashes x items is) (set_so index y hashes items (rest_of h hashes x items is))

  pub cut_set_so : (index : ℕ) (y : T) (hashes : List ℕ) (items : List T) → AreHashes f hashes items → AreHashes f (take index hashes) (slice_set items index y)
  cut_set_so zero y hashes items is = refl
  cut_set_so (suc index) y [] items is = refl
  cut_set_so (suc index) y (h ∷ hashes) [] is = absurd (none_left h hashes is)
  cut_set_so (suc index) y (h ∷ hashes) (x ∷ items) is = both h (take index hashes) x (slice_set items index y) (first_of h hashes x items is) (cut_set_so index y hashes items (rest_of h hashes x items is))

  pub one_more : (index : ℕ) (y : T) (hashes : List ℕ) (items : List T) → index ≡ length hashes → index < length items → y ≡ get_or items index y → AreHashes f hashes items → AreHashes f (hashes ++ f y ∷ []) items
  one_more index y [] [] at inside is so = absurd (omega arith)
  one_more zero y [] (x ∷ items) at inside is so = both (f y) [] x items (ap f is) refl
  one_more (suc index) y [] (x ∷ items) at inside is so = absurd (omega (arith, at))
  one_more index y (h ∷ hashes) [] at inside is so = absurd (none_left h hashes so)
  one_more zero y (h ∷ hashes) (x ∷ items) at inside is so = absurd (omega (arith, at))
  one_more (suc index) y (h ∷ hashes) (x ∷ items) at inside is so = both h (hashes ++ f y ∷ []) x items (first_of h hashes x items so) (one_more index y hashes items (omega (arith, at)) (omega (arith, inside)) is (rest_of h hashes x items so))

  pub hash_at : (index h : ℕ) (x : T) (hashes : List ℕ) (items : List T) → AreHashes f hashes items → index < length hashes → h ≡ get_or hashes index h → x ≡ get_or items index x → h ≡ f x
  hash_at index h x [] items is inside hash item = absurd (omega arith)
  hash_at index h x (k ∷ hashes) [] is inside hash item = absurd (none_left k hashes is)
  hash_at zero h x (k ∷ hashes) (y ∷ items) is inside hash item = hash ∙ first_of k hashes y items is ∙ ap f (sym item)
  hash_at (suc index) h x (k ∷ hashes) (y ∷ items) is inside hash item = hash_at index h x hashes items (rest_of k hashes y items is) (omega (arith, inside)) hash item

  pub joined_so : (hashes : List ℕ) (items more : List T) → AreHashes f hashes items → AreHashes f hashes (items ++ more)
  joined_so [] items more is = refl
  joined_so (h ∷ hashes) [] more is = absurd (none_left h hashes is)
  joined_so (h ∷ hashes) (x ∷ items) more is = both h hashes x (items ++ more) (first_of h hashes x items is) (joined_so hashes items more (rest_of h hashes x items is))

  front_so : (index : ℕ) (hashes : List ℕ) (items : List T) → length hashes ≤ index → AreHashes f hashes items → AreHashes f hashes (take index items)
  front_so index [] items within is = refl
  front_so index (h ∷ hashes) [] within is = absurd (none_left h hashes is)
  front_so zero (h ∷ hashes) (x ∷ items) within is = absurd (omega arith)
  front_so (suc index) (h ∷ hashes) (x ∷ items) within is = both h hashes x (take index items) (first_of h hashes x items is) (front_so index hashes items (omega (arith, within)) (rest_of h hashes x items is))

  pub spliced_so : (index taken : ℕ) (put : List T) (hashes : List ℕ) (items : List T) → length hashes ≤ index → AreHashes f hashes items → AreHashes f hashes (splice index taken put items)
  spliced_so index taken put hashes items within is =
      joined_so hashes (take index items ++ put) (drop (index + taken) items) (joined_so hashes (take index items) put (front_so index hashes items within is))

  -- those before the first item that changes places
  pub cut_spliced_so : (index taken : ℕ) (put : List T) (hashes : List ℕ) (items : List T) → AreHashes f hashes items → AreHashes f (take index hashes) (splice index taken put items)
  cut_spliced_so index taken put hashes items is =
      spliced_so index taken put (take index hashes) items (omega (arith, length-take index hashes)) (cut_so index hashes items is)

  -- an item moves to a position after those that have hashes
  pub moved_after : (from to : ℕ) (hashes : List ℕ) (items : List T) → length hashes ≤ from → length hashes ≤ to → AreHashes f hashes items → AreHashes f hashes (moved from to items)
  moved_after from to hashes items out back is = spliced_so to 0 (part from 1 items) hashes (splice from 1 [] items) back (spliced_so from 1 [] hashes items out is)

  whole_so : (items : List T) → AreHashes f (map f items) items
  whole_so [] = refl
  whole_so (x ∷ items) = both (f x) (map f items) x items refl (whole_so items)

spliced_front : {A : Type 0} (index taken : ℕ) (put items more : List A) → index + taken ≤ length items → splice index taken put (items ++ more) ≡ splice index taken put items ++ more
spliced_front index taken put items more within =
    ap (λ front. (front ++ put) ++ drop (index + taken) (items ++ more)) (take-append-le index items more (omega (arith, within)))
    ∙ ap (λ back. (take index items ++ put) ++ back) (drop-append-le (index + taken) items more within)
    ∙ sym (append_assoc (take index items ++ put) (drop (index + taken) items) more)

part_front : {A : Type 0} (index : ℕ) (items more : List A) → index < length items → part index 1 (items ++ more) ≡ part index 1 items
part_front index items more inside =
    ap (take 1) (drop-append-le index items more (omega (arith, inside)))
    ∙ take-append-le 1 (drop index items) more (omega (arith, inside, length-drop index items))

moved_front : {A : Type 0} (from to : ℕ) (items more : List A) → from < length items → to < length items → moved from to (items ++ more) ≡ moved from to items ++ more
moved_front from to items more out back =
    ap (λ put. splice to 0 put (splice from 1 [] (items ++ more))) (part_front from items more out)
    ∙ ap (splice to 0 (part from 1 items)) (spliced_front from 1 [] items more (omega (arith, out)))
    ∙ spliced_front to 0 (part from 1 items) (splice from 1 [] items) more (omega (arith, back, left_length from items out))

moved_mapped : {A B : Type 0} (f : A → B) (from to : ℕ) (items : List A) → moved from to (map f items) ≡ map f (moved from to items)
moved_mapped f from to items =
    ap (λ put. splice to 0 put (splice from 1 [] (map f items))) (ap (take 1) (drop-map f from items) ∙ take-map f 1 (drop from items))
    ∙ ap (splice to 0 (map f (part from 1 items))) (spliced_values f from 1 [] items)
    ∙ spliced_values f to 0 (part from 1 items) (splice from 1 [] items)

-- an item moves among those that have hashes
pub moved_within : {T : Type 0} (f : T → ℕ) (from to : ℕ) (hashes : List ℕ) (items : List T) → from < length hashes → to < length hashes → AreHashes f hashes items → AreHashes f (moved from to hashes) (moved from to items)
moved_within f from to hashes items out back is =
    let front = take (length hashes) items in
    let following = drop (length hashes) items in
    let many = ap length is ∙ length-map front f in
    let now = moved from to front in
    let mapped = ap (moved from to) is ∙ moved_mapped f from to front in
    let parts = ap (moved from to) (sym (take-append-drop (length hashes) items)) ∙ moved_front from to front following (omega (arith, out, many)) (omega (arith, back, many)) in
    subst (λ all. AreHashes f all (moved from to items)) (sym mapped)
    (subst (AreHashes f (map f now)) (sym parts) (joined_so f (map f now) now following (whole_so f now)))

-- items that have hashes change places with others
pub spliced_within : {T : Type 0} (f : T → ℕ) (index taken : ℕ) (put : List T) (come hashes : List ℕ) (items : List T) → index + taken ≤ length hashes → come ≡ map f put → AreHashes f hashes items → AreHashes f (splice index taken come hashes) (splice index taken put items)
spliced_within f index taken put come hashes items within all is =
    let front = take (length hashes) items in
    let following = drop (length hashes) items in
    let many = ap length is ∙ length-map front f in
    let now = splice index taken put front in
    let mapped = ap (λ c. splice index taken c hashes) all ∙ ap (splice index taken (map f put)) is ∙ spliced_values f index taken put front in
    let parts = ap (splice index taken put) (sym (take-append-drop (length hashes) items)) ∙ spliced_front index taken put front following (omega (arith, within, many)) in
    subst (λ whole. AreHashes f whole (splice index taken put items)) (sym mapped)
    (subst (AreHashes f (map f now)) (sym parts) (joined_so f (map f now) now following (whole_so f now)))

-- if there are as many hashes as items, they are those of all of them
pub all_hashes : {T : Type 0} (f : T → ℕ) (hashes : List ℕ) (items : List T) → length items ≤ length hashes → AreHashes f hashes items → hashes ≡ map f items
all_hashes f hashes items many is = is ∙ ap (map f) (take_all (length hashes) items many)

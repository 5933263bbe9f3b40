-- Items of which those of one kind stand in a run: which of them has an ordinal, how many there are, and what is beside them.
use Rattle.std.proofs.Common.{◌≡◌, ℕ, zero, suc, ◌+◌, ◌-◌, ◌<◌, ◌≤◌, Bool, true, false, Option, Some, None, List, [], ◌∷◌, ◌++◌, length, length-append, length-drop, map, take, drop, take-append-drop, get_or, option_map, refl, sym, ap, ◌∙◌, append_assoc, arith}
use Rattle.std.specs.Prelude.{if◌then◌else◌, is_some, max, replicate, slice_get, MatchOption}
use Rattle.std.specs.List.{cons_option, filter_map, enumerate_from, last_or}
use Rattle.std.specs.Option.{option_and_then}
use Rattle.std.proofs.lemmas.List.{append-nil, drop-drop, drop-map, drop_all, drop_at, length-map, length-replicate, length-take-le, map-append, take-map, take_all, take_at, nil_from_length, replicate-append-replicate}
use Rattle.std.proofs.lemmas.List.Elements.{filter_map-append}
use Rattle.std.proofs.lemmas.List.FromFn.{length-enumerate_from}
use Rattle.std.proofs.lemmas.Option.{slice_get_read}
use Rattle.mvt_document.specs.declared.body.Body.TheVariants as in_body
use Rattle.mvt_document.specs.declared.document.LayerItem.{LayerItem}
use Rattle.mvt_document.specs.declared.document.LayerItem.TheVariants as in_layer
use Rattle.mvt_document.specs.declared.document.TileItem.{TileItem}
use Rattle.mvt_document.specs.declared.document.TileItem.TheVariants as in_tile
use Rattle.mvt_document.specs.declared.run.Kind.TheVariants.{Message}
use Rattle.mvt_document.specs.declared.run.Run.{Run}
use Rattle.mvt_document.specs.Kinds.{in_layer_of_kind, in_tile_of_kind, is_delimited, is_entry, is_feature}
use Rattle.mvt_document.specs.Plain.{Feature}
use Rattle.mvt_document.specs.Plain as plain
use Rattle.mvt_document.specs.Runs.{one_run, IsRunOf}
use Rattle.mvt_document.specs.Bodies.{body_of}
use Rattle.mvt_document.specs.Stands.{layer_item_of, tile_item_of}
use Rattle.mvt_document.proofs.Running.{parts_known, run_length}
use Rattle.mvt_document.proofs.Options.{none_is, some_is}
use Rattle.mvt_document.proofs.Lists.{last_there}
use Rattle.mvt_messages.specs.Found.{with_position, placed_from, found_from, found_in}
use Rattle.mvt_layers.specs.Pools.{entry_in}
use Rattle.mvt_messages.specs.Views.{content_in, content_of, contents, feature_in, layer_in, plain_fields}
use Rattle.mvt_layers.proofs.Placing.{found_items, placed_items}
use Rattle.mvt_layers.proofs.Yielded.{last_joined, map_last}

-- ---- what is picked, and what is not

numbered_joined : {B : Type 0} (n : ℕ) (xs ys : List B) → enumerate_from n (xs ++ ys) ≡ enumerate_from n xs ++ enumerate_from (n + length xs) ys
numbered_joined n [] ys =
    let same : n ≡ n + 0 = omega arith in
    ap (λ k. enumerate_from k ys) same
numbered_joined n (x ∷ xs) ys =
    let next : n + 1 + length xs ≡ n + suc (length xs) = omega arith in
    ap (λ t. (n, x) ∷ t) (numbered_joined (n + 1) xs ys ∙ ap (λ k. enumerate_from (n + 1) xs ++ enumerate_from k ys) next)

appended : {B : Type 0} (xs ys : List B) (k : ℕ) → length xs ≤ k → slice_get (xs ++ ys) k ≡ slice_get ys (k - length xs)
appended [] ys k past =
    let same : k ≡ k - 0 = omega arith in
    ap (slice_get ys) same
appended (x ∷ xs) ys zero past = absurd (omega arith)
appended (x ∷ xs) ys (suc k) past =
    let less : k - length xs ≡ suc k - suc (length xs) = omega arith in
    appended xs ys k (omega arith) ∙ ap (slice_get ys) less

last_over : {A : Type 0} (o : Option A) (xs : List A) (x : A) → last_or None xs ≡ Some x → last_or o xs ≡ Some x
last_over o [] x is = absurd (cc)
last_over o (y ∷ xs) x is = is

last_none : {A : Type 0} (xs : List A) → last_or None xs ≡ None → xs ≡ []
last_none [] is = refl
last_none (x ∷ xs) is = absurd (last_there x xs is)

last_got : {A : Type 0} (o : Option A) (xs : List A) (k : ℕ) → length xs ≡ suc k → last_or o xs ≡ slice_get xs k
last_got o [] k long = absurd (omega (arith, long))
last_got o (x ∷ []) zero long = refl
last_got o (x ∷ []) (suc k) long = absurd (omega (arith, long))
last_got o (x ∷ (y ∷ xs)) zero long = absurd (omega (arith, long))
last_got o (x ∷ (y ∷ xs)) (suc k) long = last_got (Some x) (y ∷ xs) k (omega (arith, long))

-- ---- the bounds of a run

pub run_within : {X : Type 0} (f : X → Bool) (run : Run) (items : List X) → IsRunOf f run items → run.first + run.count ≤ length items
run_within f run items h = omega (arith, length-map items f, ap length h.is, length-append (one_run run.first run.count h.following) h.rest, run_length run.first run.count h.following)

-- so is each item of it
pub inside_run : {X : Type 0} (f : X → Bool) (run : Run) (items : List X) (position end : ℕ) → IsRunOf f run items → end ≤ run.first + run.count → position < end → position < length items
inside_run f run items position end h known before = omega (arith, run_within f run items h, known, before)

pub until_within : {X : Type 0} (f : X → Bool) (run : Run) (items : List X) → IsRunOf f run items → run.until ≤ length items
until_within f run items h = omega (arith, h.until, length-map items f, ap length h.is, length-append (one_run run.first run.count h.following) h.rest, run_length run.first run.count h.following)

pub count_before : {X : Type 0} (f : X → Bool) (run : Run) (items : List X) → IsRunOf f run items → run.count ≤ run.until
count_before f run items h = omega (arith, h.until)

-- ---- what is found, where what is picked are the items of one kind

module _ {X A B : Type 0} (view : X → A) (pick : A → Option B) (f : X → Bool) (agrees : (x : X) → is_some (pick (view x)) ≡ f x) where
  -- what is found among items, from an ordinal and a position on
  abbrev placed : ℕ → ℕ → List X → List (ℕ × (ℕ × B))
  placed ordinal position items = enumerate_from ordinal (filter_map (with_position pick) (enumerate_from position (map view items)))

  -- what an item is, with an ordinal and a position
  abbrev pub there : ℕ → ℕ → Option X → Option (ℕ × (ℕ × B))
  there ordinal position item = option_and_then (λ i. option_map (λ found. (ordinal, (position, found))) (pick (view i))) item

  in_run : (ordinal position first count k : ℕ) (tail : List Bool) (items : List X) → map f items ≡ replicate first false ++ (replicate count true ++ tail) → k < count → slice_get (placed ordinal position items) k ≡ there (ordinal + k) (position + (first + k)) (slice_get items (first + k))
  in_run ordinal position zero zero k tail items e inside = absurd (omega arith)
  in_run ordinal position zero (suc count) k tail [] e inside = absurd (cc)
  in_run ordinal position (suc first) count k tail [] e inside = absurd (cc)
  in_run ordinal position (suc first) count k tail (x ∷ items) e inside =
      let other : f x ≡ false = cc in
      let none = none_is (pick (view x)) (agrees x ∙ other) in
      let next : suc first + k ≡ suc (first + k) = omega arith in
      let at : position + 1 + (first + k) ≡ position + (suc first + k) = omega arith in
      let rest = filter_map (with_position pick) (enumerate_from (position + 1) (map view items)) in
      ap (λ o. slice_get (enumerate_from ordinal (cons_option (option_map (λ found. (position, found)) o) rest)) k) none
      ∙ in_run ordinal (position + 1) first count k tail items (ap (drop 1) e) inside
      ∙ ap (λ p. there (ordinal + k) p (slice_get items (first + k))) at
      ∙ sym (ap (λ n. there (ordinal + k) (position + (suc first + k)) (slice_get (x ∷ items) n)) next)
  in_run ordinal position zero (suc count) zero tail (x ∷ items) e inside =
      let same : ordinal ≡ ordinal + 0 = omega arith in
      let at : position ≡ position + (0 + 0) = omega arith in
      let one : f x ≡ true = cc in
      let some = some_is (pick (view x)) (agrees x ∙ one) in
      let rest = filter_map (with_position pick) (enumerate_from (position + 1) (map view items)) in
      ap (λ o. slice_get (enumerate_from ordinal (cons_option (option_map (λ found. (position, found)) o) rest)) 0) some.1
      ∙ ap (λ o. Some (o, (position, some.0))) same
      ∙ ap (λ p. Some (ordinal + 0, (p, some.0))) at
      ∙ sym (ap (λ o. option_map (λ found. (ordinal + 0, (position + (0 + 0), found))) o) some.1)
  in_run ordinal position zero (suc count) (suc k) tail (x ∷ items) e inside =
      let same : ordinal + 1 + k ≡ ordinal + suc k = omega arith in
      let at : position + 1 + (0 + k) ≡ position + (0 + suc k) = omega arith in
      let next : 0 + suc k ≡ suc (0 + k) = omega arith in
      let one : f x ≡ true = cc in
      let some = some_is (pick (view x)) (agrees x ∙ one) in
      let rest = filter_map (with_position pick) (enumerate_from (position + 1) (map view items)) in
      ap (λ o. slice_get (enumerate_from ordinal (cons_option (option_map (λ found. (position, found)) o) rest)) (suc k)) some.1
      ∙ in_run (ordinal + 1) (position + 1) zero count k tail items (ap (drop 1) e) (omega arith)
      ∙ ap (λ o. there o (position + 1 + (0 + k)) (slice_get items (0 + k))) same
      ∙ ap (λ p. there (ordinal + suc k) p (slice_get items (0 + k))) at
      ∙ sym (ap (λ n. there (ordinal + suc k) (position + (0 + suc k)) (slice_get (x ∷ items) n)) next)

  count_in : (first count following : ℕ) (items : List X) → map f items ≡ one_run first count following → length (filter_map pick (map view items)) ≡ count
  count_in first count following [] e = omega (arith, ap length e, run_length first count following)
  count_in (suc first) count following (x ∷ items) e =
      let other : f x ≡ false = cc in
      ap (λ o. length (cons_option o (filter_map pick (map view items)))) (none_is (pick (view x)) (agrees x ∙ other)) ∙ count_in first count following items (ap (drop 1) e)
  count_in zero (suc count) following (x ∷ items) e =
      let one : f x ≡ true = cc in
      ap (λ o. length (cons_option o (filter_map pick (map view items)))) (some_is (pick (view x)) (agrees x ∙ one)).1 ∙ ap suc (count_in zero count following items (ap (drop 1) e))
  count_in zero zero zero (x ∷ items) e = absurd (cc)
  count_in zero zero (suc following) (x ∷ items) e =
      let other : f x ≡ false = cc in
      ap (λ o. length (cons_option o (filter_map pick (map view items)))) (none_is (pick (view x)) (agrees x ∙ other)) ∙ count_in zero zero following items (ap (drop 1) e)

  -- what is found is what is found in the part that is known, and then what is found after that
  split : (run : Run) (items : List X) → IsRunOf f run items
      → (front : List (ℕ × (ℕ × B))) × (found_in pick (map view items) ≡ front ++ found_from pick run.count run.until (map view items)) × (length front ≡ run.count)
  split run items h =
      let known = take run.until items in
      let rest = drop run.until items in
      let within = until_within f run items h in
      let long : length (map view known) ≡ run.until = length-map known view ∙ length-take-le run.until items within in
      let values : map f known ≡ one_run run.first run.count h.following =
      sym (take-map f run.until items) ∙ ap (take run.until) h.is ∙ take_at (one_run run.first run.count h.following) h.rest run.until (run_length run.first run.count h.following ∙ sym h.until) in
      let front = filter_map (with_position pick) (enumerate_from 0 (map view known)) in
      let count : length front ≡ run.count = sym (length-map front (λ (p : ℕ × B). p.1)) ∙ ap length (placed_items pick 0 (map view known)) ∙ count_in run.first run.count h.following known values in
      let at : 0 + length (map view known) ≡ run.until = omega (arith, long) in
      let ordinal : 0 + length front ≡ run.count = omega (arith, count) in
      let back = filter_map (with_position pick) (enumerate_from run.until (drop run.until (map view items))) in (
        enumerate_from 0 front,
        ap (λ xs. enumerate_from 0 (filter_map (with_position pick) (enumerate_from 0 (map view xs)))) (sym (take-append-drop run.until items))
            ∙ ap (λ xs. enumerate_from 0 (filter_map (with_position pick) (enumerate_from 0 xs))) (map-append view known rest ∙ ap (λ t. map view known ++ t) (sym (drop-map view run.until items)))
            ∙ ap (λ xs. enumerate_from 0 (filter_map (with_position pick) xs)) (numbered_joined 0 (map view known) (drop run.until (map view items)) ∙ ap (λ n. enumerate_from 0 (map view known) ++ enumerate_from n (drop run.until (map view items))) at)
            ∙ ap (enumerate_from 0) (filter_map-append (with_position pick) (enumerate_from 0 (map view known)) (enumerate_from run.until (drop run.until (map view items))))
            ∙ numbered_joined 0 front back
            ∙ ap (λ n. enumerate_from 0 front ++ enumerate_from n back) ordinal,
        length-enumerate_from 0 front ∙ count,
      )

  none_picked : (n position : ℕ) (items : List X) → map f items ≡ replicate n false → filter_map (with_position pick) (enumerate_from position (map view items)) ≡ []
  none_picked n position [] e = refl
  none_picked zero position (x ∷ items) e = absurd (cc)
  none_picked (suc n) position (x ∷ items) e =
      let other : f x ≡ false = cc in
      let rest = filter_map (with_position pick) (enumerate_from (position + 1) (map view items)) in
      ap (λ o. cons_option (option_map (λ found. (position, found)) o) rest) (none_is (pick (view x)) (agrees x ∙ other))
      ∙ none_picked n (position + 1) items (ap (drop 1) e)

  none_over : (n position : ℕ) (part back : List X) → map f part ≡ replicate n false → filter_map (with_position pick) (enumerate_from position (map view (part ++ back))) ≡ filter_map (with_position pick) (enumerate_from (position + n) (map view back))
  none_over zero position [] back e =
      let same : position ≡ position + 0 = omega arith in
      ap (λ p. filter_map (with_position pick) (enumerate_from p (map view back))) same
  none_over (suc n) position [] back e = absurd (cc)
  none_over zero position (x ∷ part) back e = absurd (cc)
  none_over (suc n) position (x ∷ part) back e =
      let other : f x ≡ false = cc in
      let next : position + 1 + n ≡ position + suc n = omega arith in
      let rest = filter_map (with_position pick) (enumerate_from (position + 1) (map view (part ++ back))) in
      ap (λ o. cons_option (option_map (λ found. (position, found)) o) rest) (none_is (pick (view x)) (agrees x ∙ other))
      ∙ none_over n (position + 1) part back (ap (drop 1) e)
      ∙ ap (λ p. filter_map (with_position pick) (enumerate_from p (map view back))) next

  none_passed : (start n : ℕ) (items : List X) → map f (take n (drop start items)) ≡ replicate n false → placed_from pick start (map view items) ≡ placed_from pick (start + n) (map view items)
  none_passed start n items e =
      let rest = drop start items in
      let part = take n rest in
      let back = drop (start + n) items in
      ap (λ xs. filter_map (with_position pick) (enumerate_from start xs)) (drop-map view start items ∙ ap (map view) (sym (take-append-drop n rest) ∙ ap (λ xs. part ++ xs) (drop-drop n start items)))
      ∙ none_over n start part back e
      ∙ ap (λ xs. filter_map (with_position pick) (enumerate_from (start + n) xs)) (sym (drop-map view (start + n) items))

  -- nothing is found before the run
  pub none_before : (run : Run) (items : List X) → IsRunOf f run items → placed_from pick 0 (map view items) ≡ placed_from pick run.first (map view items)
  none_before run items h =
      let F = replicate run.first false in
      let C = replicate run.count true in
      let B' = replicate h.following false in
      let same : 0 + run.first ≡ run.first = omega arith in
      let values : map f (take run.first items) ≡ F =
      sym (take-map f run.first items) ∙ ap (take run.first) (h.is ∙ append_assoc F (C ++ B') h.rest) ∙ take_at F ((C ++ B') ++ h.rest) run.first (length-replicate run.first false) in
      none_passed 0 run.first items values ∙ ap (λ n. placed_from pick n (map view items)) same

  -- nor between its end and the end of what is known
  pub none_after : (run : Run) (items : List X) → IsRunOf f run items → placed_from pick (run.first + run.count) (map view items) ≡ placed_from pick run.until (map view items)
  none_after run items h =
      let end = run.first + run.count in
      let F = replicate run.first false in
      let C = replicate run.count true in
      let B' = replicate h.following false in
      let long : length (F ++ C) ≡ end = omega (arith, length-append F C, length-replicate run.first false, length-replicate run.count true) in
      let until : end + h.following ≡ run.until = omega (arith, h.until) in
      let parted : map f items ≡ (F ++ C) ++ (B' ++ h.rest) = h.is ∙ ap (λ t. t ++ h.rest) (sym (append_assoc F C B')) ∙ append_assoc (F ++ C) B' h.rest in
      let values : map f (take h.following (drop end items)) ≡ B' =
      sym (take-map f h.following (drop end items))
      ∙ ap (take h.following) (sym (drop-map f end items) ∙ ap (drop end) parted ∙ drop_at (F ++ C) (B' ++ h.rest) end long)
      ∙ take_at B' h.rest h.following (length-replicate h.following false) in
      none_passed end h.following items values ∙ ap (λ n. placed_from pick n (map view items)) until

  -- where everything is known, everything is found up to the end of the run
  pub run_to_end : (run : Run) (items : List X) → IsRunOf f run items → run.until ≡ length items → found_in pick (map view (take (run.first + run.count) items)) ≡ found_in pick (map view items)
  run_to_end run items h all =
      let end = run.first + run.count in
      let front = take end items in
      let back = drop end items in
      let F = replicate run.first false in
      let C = replicate run.count true in
      let B' = replicate h.following false in
      let known = one_run run.first run.count h.following in
      let nothing : h.rest ≡ [] = nil_from_length h.rest (omega (arith, length-map items f, ap length h.is, length-append known h.rest, run_length run.first run.count h.following, h.until, all)) in
      let long : length (F ++ C) ≡ end = omega (arith, length-append F C, length-replicate run.first false, length-replicate run.count true) in
      let values : map f back ≡ B' =
      sym (drop-map f end items) ∙ ap (drop end) (h.is ∙ ap (λ rest. known ++ rest) nothing ∙ append-nil known ∙ sym (append_assoc F C B')) ∙ drop_at (F ++ C) B' end long in
      let at = 0 + length (map view front) in
      let first = filter_map (with_position pick) (enumerate_from 0 (map view front)) in
      sym (ap (λ xs. found_in pick (map view xs)) (sym (take-append-drop end items))
      ∙ ap (found_in pick) (map-append view front back)
      ∙ ap (λ xs. enumerate_from 0 (filter_map (with_position pick) xs)) (numbered_joined 0 (map view front) (map view back))
      ∙ ap (enumerate_from 0) (filter_map-append (with_position pick) (enumerate_from 0 (map view front)) (enumerate_from at (map view back))
      ∙ ap (λ xs. first ++ xs) (none_picked h.following at back values)
      ∙ append-nil first))

  -- the item with an ordinal is that far after the first
  pub run_there : (run : Run) (items : List X) (k : ℕ) → IsRunOf f run items → k < run.count → slice_get (found_in pick (map view items)) k ≡ there k (run.first + k) (slice_get items (run.first + k))
  run_there run items k h inside =
      let F = replicate run.first false in
      let C = replicate run.count true in
      let B' = replicate h.following false in
      let same : 0 + k ≡ k = omega arith in
      let at : 0 + (run.first + k) ≡ run.first + k = omega arith in
      in_run 0 0 run.first run.count k (B' ++ h.rest) items (h.is ∙ append_assoc F (C ++ B') h.rest ∙ ap (λ t. F ++ t) (append_assoc C B' h.rest)) inside
      ∙ ap (λ o. there o (0 + (run.first + k)) (slice_get items (run.first + k))) same
      ∙ ap (λ p. there k p (slice_get items (run.first + k))) at

  -- and it is the one that is read there
  pub run_read : (run : Run) (items : List X) (k : ℕ) (item : X) → IsRunOf f run items → k < run.count → item ≡ get_or items (run.first + k) item → slice_get (found_in pick (map view items)) k ≡ there k (run.first + k) (Some item)
  run_read run items k item h inside read =
      run_there run items k h inside
      ∙ ap (there k (run.first + k)) (slice_get_read items (length items) (run.first + k) item refl (omega (arith, run_within f run items h, inside)) read)

  -- those that are not in the run are found after what is known
  pub run_past : (run : Run) (items : List X) (k : ℕ) → IsRunOf f run items → run.count ≤ k → slice_get (found_in pick (map view items)) k ≡ slice_get (found_from pick run.count run.until (map view items)) (k - run.count)
  run_past run items k h past =
      let parts = split run items h in
      ap (λ xs. slice_get xs k) parts.1
      ∙ appended parts.0 (found_from pick run.count run.until (map view items)) k (omega (arith, parts.2))
      ∙ ap (λ n. slice_get (found_from pick run.count run.until (map view items)) (k - n)) parts.2

  pub run_total : (run : Run) (items : List X) → IsRunOf f run items → length (found_in pick (map view items)) ≡ run.count + length (found_from pick run.count run.until (map view items))
  run_total run items h =
      let parts = split run items h in
      ap length parts.1 ∙ length-append parts.0 (found_from pick run.count run.until (map view items)) ∙ ap (λ n. n + length (found_from pick run.count run.until (map view items))) parts.2

  -- the last that is found is the last after what is known
  pub run_last_after : (run : Run) (items : List X) (last : ℕ × (ℕ × B)) → IsRunOf f run items → last_or None (found_from pick run.count run.until (map view items)) ≡ Some last → last_or None (found_in pick (map view items)) ≡ Some last
  run_last_after run items last h is =
      let parts = split run items h in
      let following = found_from pick run.count run.until (map view items) in
      ap (last_or None) parts.1 ∙ last_joined None parts.0 following ∙ last_over (last_or None parts.0) following last is

  -- or else the last of the run
  pub run_last_in : (run : Run) (items : List X) (k : ℕ) → IsRunOf f run items → last_or None (found_from pick run.count run.until (map view items)) ≡ None → run.count ≡ suc k → last_or None (found_in pick (map view items)) ≡ slice_get (found_in pick (map view items)) k
  run_last_in run items k h none count =
      let following = ap length (last_none (found_from pick run.count run.until (map view items)) none) in
      last_got None (found_in pick (map view items)) k (omega (arith, run_total run items h, following, count))

  -- or there is none
  pub run_no_last : (run : Run) (items : List X) → IsRunOf f run items → last_or None (found_from pick run.count run.until (map view items)) ≡ None → run.count ≡ 0 → last_or None (found_in pick (map view items)) ≡ None
  run_no_last run items h none count =
      let following = ap length (last_none (found_from pick run.count run.until (map view items)) none) in
      ap (last_or None) (nil_from_length (found_in pick (map view items)) (omega (arith, run_total run items h, following, count)))

-- ---- layers, features, and entries

pub is_found_layer : (item : TileItem) → is_some (layer_in (tile_item_of item)) ≡ in_tile_of_kind Message item
is_found_layer (in_tile.Layer layer) = refl
is_found_layer (in_tile.Plain field) = refl

pub is_found_feature : (item : LayerItem) → is_some (feature_in (layer_item_of item)) ≡ in_layer_of_kind Message item
is_found_feature (in_layer.Feature feature) = refl
is_found_feature (in_layer.Plain field) = refl

entry_is : (test : Bool) (body : _) → is_some (if test then content_of (body_of body) else None) ≡ (if test then is_delimited body else false)
entry_is false body = refl
entry_is true (in_body.Number number) = refl
entry_is true (in_body.Eight bytes) = refl
entry_is true (in_body.Four bytes) = refl
entry_is true (in_body.Bytes width bytes) = refl
entry_is true (in_body.Group bytes) = refl

pub is_found_entry : (number : ℕ) (item : LayerItem) → is_some (entry_in number (layer_item_of item)) ≡ is_entry number item
is_found_entry number (in_layer.Feature feature) = refl
is_found_entry number (in_layer.Plain field) = entry_is _ field.body

-- how many entries there are, where those of the run are counted
pub entries_total : (number : ℕ) (run : Run) (items : List LayerItem) → IsRunOf (is_entry number) run items → length (found_in (entry_in number) (map layer_item_of items)) ≡ run.count + length (placed_from (entry_in number) run.until (map layer_item_of items))
entries_total number run items h =
    run_total layer_item_of (entry_in number) (is_entry number) (is_found_entry number) run items h
    ∙ ap (λ n. run.count + n) (length-enumerate_from run.count (placed_from (entry_in number) run.until (map layer_item_of items)))

-- the entries of a number are the contents of that number
entry_contents : (number : ℕ) (items : List plain.LayerItem) → filter_map (entry_in number) items ≡ contents number (plain_fields items)
entry_contents number [] = refl
entry_contents number (plain.OfFeature feature ∷ items) = entry_contents number items
entry_contents number (plain.PlainInLayer field ∷ items) = ap (cons_option (content_in number field)) (entry_contents number items)

pub found_contents : (number : ℕ) (items : List plain.LayerItem) → map (λ (found : ℕ × (ℕ × List ℕ)). found.1.1) (found_in (entry_in number) items) ≡ contents number (plain_fields items)
found_contents number items = found_items (entry_in number) items ∙ entry_contents number items

-- as many are placed as there are
pub placed_contents : (number : ℕ) (items : List plain.LayerItem) → length (placed_from (entry_in number) 0 items) ≡ length (contents number (plain_fields items))
placed_contents number items =
    sym (length-enumerate_from 0 (placed_from (entry_in number) 0 items))
    ∙ sym (length-map (found_in (entry_in number) items) (λ (found : ℕ × (ℕ × List ℕ)). found.1.1))
    ∙ ap length (found_contents number items)

-- the last entry of a number is the last content of that number
pub last_content : (number : ℕ) (items : List plain.LayerItem) → option_map (λ (found : ℕ × (ℕ × List ℕ)). found.1.1) (last_or None (found_in (entry_in number) items)) ≡ last_or None (contents number (plain_fields items))
last_content number items = map_last (λ found. found.1.1) None (found_in (entry_in number) items) ∙ ap (last_or None) (found_contents number items)

content_of_found : {B : Type 0} (found : Option B) (ordinal position : ℕ) → option_map (λ (f : ℕ × (ℕ × B)). f.1.1) (option_map (λ x. (ordinal, (position, x))) found) ≡ found
content_of_found None ordinal position = refl
content_of_found (Some x) ordinal position = refl

-- the content of what is there
pub content_there : (number ordinal position : ℕ) (item : LayerItem) → option_map (λ (found : ℕ × (ℕ × List ℕ)). found.1.1) (there layer_item_of (entry_in number) (is_entry number) (is_found_entry number) ordinal position (Some item)) ≡ entry_in number (layer_item_of item)
content_there number ordinal position item = content_of_found (entry_in number (layer_item_of item)) ordinal position

-- ---- the other fields

none_among : (n : ℕ) (items : List LayerItem) → map is_feature items ≡ replicate n true → plain_fields (map layer_item_of items) ≡ []
none_among n [] e = refl
none_among zero (item ∷ items) e = absurd (cc)
none_among (suc n) (in_layer.Plain field ∷ items) e = absurd (cc)
none_among (suc n) (in_layer.Feature feature ∷ items) e = none_among n items (ap (drop 1) e)

fields_apart : (xs ys : List LayerItem) → plain_fields (map layer_item_of (xs ++ ys)) ≡ plain_fields (map layer_item_of xs) ++ plain_fields (map layer_item_of ys)
fields_apart xs ys = ap plain_fields (map-append layer_item_of xs ys) ∙ filter_map-append _ (map layer_item_of xs) (map layer_item_of ys)

-- those of the run from an item of it on, which are features; or none
features_on : (run : Run) (items : List LayerItem) (start n : ℕ) → IsRunOf (in_layer_of_kind Message) run items → run.first ≤ start → start + n ≡ max start (run.first + run.count)
    → map is_feature (take n (drop start items)) ≡ replicate n true
features_on run items start zero h from to = refl
features_on run items start (suc m) h from to =
    let n = suc m in
    let k = start - run.first in
    let F = replicate run.first false in
    let K = replicate k true in
    let N = replicate n true in
    let T = replicate h.following false ++ h.rest in
    let count : run.count ≡ k + n = omega (arith, from, to) in
    let long : length (F ++ K) ≡ start = omega (arith, from, length-append F K, length-replicate run.first false, length-replicate k true) in
    let parted : map is_feature items ≡ (F ++ K) ++ (N ++ T) =
    parts_known run (map is_feature items) h
    ∙ ap (λ c. F ++ (replicate c true ++ T)) count
    ∙ ap (λ xs. F ++ (xs ++ T)) (sym (replicate-append-replicate k n true))
    ∙ ap (λ xs. F ++ xs) (append_assoc K N T)
    ∙ sym (append_assoc F K (N ++ T)) in
    sym (take-map is_feature n (drop start items))
    ∙ ap (take n) (sym (drop-map is_feature start items) ∙ ap (drop start) parted ∙ drop_at (F ++ K) (N ++ T) start long)
    ∙ take_at N T n (length-replicate n true)

-- the items before the run, those of the run, which are features, and those after it
pub run_parts : (run : Run) (items : List LayerItem) → IsRunOf (in_layer_of_kind Message) run items
    → (items ≡ take run.first items ++ (take run.count (drop run.first items) ++ drop (run.first + run.count) items)) × (map is_feature (take run.count (drop run.first items)) ≡ replicate run.count true)
run_parts run items h =
    let rest = drop run.first items in (
      sym (take-append-drop run.first items) ∙ ap (λ xs. take run.first items ++ xs) (sym (take-append-drop run.count rest) ∙ ap (λ xs. take run.count rest ++ xs) (drop-drop run.count run.first items)),
      features_on run items run.first run.count h (omega arith) (omega arith),
    )

pub fields_beside : (run : Run) (items : List LayerItem) → IsRunOf (in_layer_of_kind Message) run items
    → plain_fields (map layer_item_of items) ≡ plain_fields (map layer_item_of (take run.first items)) ++ plain_fields (map layer_item_of (drop (run.first + run.count) items))
fields_beside run items h =
    let part = take run.count (drop run.first items) in
    let back = drop (run.first + run.count) items in
    let parts = run_parts run items h in
    ap (λ xs. plain_fields (map layer_item_of xs)) parts.0
    ∙ fields_apart (take run.first items) (part ++ back)
    ∙ ap (λ xs. plain_fields (map layer_item_of (take run.first items)) ++ xs) (fields_apart part back ∙ ap (λ xs. xs ++ plain_fields (map layer_item_of back)) (none_among run.count part parts.1))

-- the same for the slices
pub fields_parted : (run : Run) (items : List LayerItem) → IsRunOf (in_layer_of_kind Message) run items
    → plain_fields (map layer_item_of items) ≡ plain_fields (map layer_item_of (take run.first items)) ++ plain_fields (map layer_item_of (take (length items - (run.first + run.count)) (drop (run.first + run.count) items)))
fields_parted run items h =
    let end = run.first + run.count in
    let back = take_all (length items - end) (drop end items) (omega (arith, length-drop end items)) in
    fields_beside run items h ∙ ap (λ xs. plain_fields (map layer_item_of (take run.first items)) ++ plain_fields (map layer_item_of xs)) (sym back)

pub parted_length : (run : Run) (items : List LayerItem) → IsRunOf (in_layer_of_kind Message) run items
    → length (take run.first items) + length (take (length items - (run.first + run.count)) (drop (run.first + run.count) items)) ≤ length items
parted_length run items h =
    let end = run.first + run.count in
    let within = run_within (in_layer_of_kind Message) run items h in
    let back = ap length (take_all (length items - end) (drop end items) (omega (arith, length-drop end items))) in
    omega (arith, within, back, length-drop end items, length-take-le run.first items (omega (arith, within)))

-- ---- the keys and the values

-- features are no entries
no_entries : (number n : ℕ) (items : List LayerItem) → map is_feature items ≡ replicate n true → map (is_entry number) items ≡ replicate n false
no_entries number zero [] e = refl
no_entries number (suc n) [] e = absurd (cc)
no_entries number zero (item ∷ items) e = absurd (cc)
no_entries number (suc n) (in_layer.Plain field ∷ items) e = absurd (cc)
no_entries number (suc n) (in_layer.Feature feature ∷ items) e = ap (λ more. false ∷ more) (no_entries number n items (ap (drop 1) e))

-- so those from where the run of features begins on, or from later on, are those from its end on
pub passed_from : (number : ℕ) (run : Run) (items : List LayerItem) (start : ℕ) → IsRunOf (in_layer_of_kind Message) run items
    → placed_from (entry_in number) (max start run.first) (map layer_item_of items) ≡ placed_from (entry_in number) (max start (run.first + run.count)) (map layer_item_of items)
passed_from number run items start h =
    let first = max start run.first in
    let end = max start (run.first + run.count) in
    let n = end - first in
    let sum : first + n ≡ end = omega arith in
    let features = features_on run items first n h (omega arith) (omega (arith, sum)) in
    none_passed layer_item_of (entry_in number) (is_entry number) (is_found_entry number) first n items (no_entries number n (take n (drop first items)) features)
    ∙ ap (λ p. placed_from (entry_in number) p (map layer_item_of items)) sum

-- nothing is found after all items
pub placed_past : (number : ℕ) (items : List LayerItem) → placed_from (entry_in number) (length items) (map layer_item_of items) ≡ []
placed_past number items = ap (λ xs. filter_map (with_position (entry_in number)) (enumerate_from (length items) xs)) (drop_all (length items) (map layer_item_of items) (omega (arith, length-map items layer_item_of)))

-- what is found in a part is found in the whole that begins with it
pub matched : {X Y : Type 0} (found : Option X) (whole part last end : List Y) (next : X → List Y) → whole ≡ part → last ≡ end → MatchOption found (part ≡ last) (λ x. part ≡ next x) → MatchOption found (whole ≡ end) (λ x. whole ≡ next x)
matched None whole part last end next same past h = same ∙ h ∙ past
matched (Some x) whole part last end next same past h = same ∙ h

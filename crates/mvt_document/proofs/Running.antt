-- Lists in which one run is true, as far as they are known: joined, split and spliced.
use Rattle.std.proofs.Common.{◌≡◌, ℕ, zero, suc, ◌+◌, ◌-◌, ◌<◌, ◌≤◌, Bool, true, false, Option, Some, None, List, [], ◌∷◌, ◌++◌, length, length-append, length-drop, take, drop, take-append-drop, get_or, map, min, refl, sym, ap, ◌∙◌, subst, append_assoc, arith}
use Rattle.std.specs.Prelude.{if◌then◌else◌, replicate, slice_get, slice_set, IfSome, IsTrue}
use Rattle.std.proofs.lemmas.List.{append-nil, drop-map, drop-replicate, drop_all, drop_more, length-map, length-replicate, length-take-le, map-append, replicate-append-replicate, replicate_more, take-map, take_all, take_more, nil_from_length}
use Rattle.mvt_document.specs.declared.run.Kind.{Kind}
use Rattle.mvt_document.specs.declared.run.Kind.TheVariants as kind
use Rattle.mvt_document.specs.declared.run.Run.{Run}
use Rattle.mvt_document.specs.declared.run.Runs.{Runs}
use Rattle.mvt_document.specs.Runs.{one_run, IsRun, IsRunOf, AreRunsOf}
use Rattle.mvt_document.specs.Splicing.{moved, part, splice}

-- ---- parts of joined lists

take_joined : {A : Type 0} (n : ℕ) (xs ys : List A) → take n (xs ++ ys) ≡ take n xs ++ take (n - length xs) ys
take_joined zero xs ys =
    let none : 0 - length xs ≡ 0 = omega arith in
    sym (ap (λ k. take k ys) none)
take_joined (suc n) [] ys =
    let all : suc n - 0 ≡ suc n = omega arith in
    sym (ap (λ k. take k ys) all)
take_joined (suc n) (x ∷ xs) ys =
    let less : n - length xs ≡ suc n - suc (length xs) = omega arith in
    ap (λ rest. x ∷ rest) (take_joined n xs ys ∙ ap (λ k. take n xs ++ take k ys) less)

drop_joined : {A : Type 0} (n : ℕ) (xs ys : List A) → drop n (xs ++ ys) ≡ drop n xs ++ drop (n - length xs) ys
drop_joined zero xs ys =
    let none : 0 - length xs ≡ 0 = omega arith in
    sym (ap (λ k. xs ++ drop k ys) none)
drop_joined (suc n) [] ys =
    let all : suc n - 0 ≡ suc n = omega arith in
    sym (ap (λ k. drop k ys) all)
drop_joined (suc n) (x ∷ xs) ys =
    let less : n - length xs ≡ suc n - suc (length xs) = omega arith in
    drop_joined n xs ys ∙ ap (λ k. drop n xs ++ drop k ys) less

take_same : {A : Type 0} (k n : ℕ) (y : A) → take k (replicate n y) ≡ replicate (min n k) y
take_same zero n y =
    let none : min n 0 ≡ 0 = omega arith in
    sym (ap (λ m. replicate m y) none)
take_same (suc k) zero y =
    let none : min 0 (suc k) ≡ 0 = omega arith in
    sym (ap (λ m. replicate m y) none)
take_same (suc k) (suc n) y =
    let one : min (suc n) (suc k) ≡ suc (min n k) = omega arith in
    ap (λ rest. y ∷ rest) (take_same k n y) ∙ sym (ap (λ m. replicate m y) one)

-- ---- parts of a list with one run

-- the length of a list with one run
pub run_length : (f c b : ℕ) → length (one_run f c b) ≡ f + (c + b)
run_length f c b =
    let whole : length (one_run f c b) ≡ length (replicate f false) + length (replicate c true ++ replicate b false) = length-append (replicate f false) (replicate c true ++ replicate b false) in
    omega (arith, whole, length-append (replicate c true) (replicate b false), length-replicate f false, length-replicate c true, length-replicate b false)

take_run : (k f c b : ℕ) → take k (one_run f c b) ≡ one_run (min f k) (min c (k - f)) (min b (k - f - c))
take_run k f c b =
    take_joined k (replicate f false) (replicate c true ++ replicate b false)
    ∙ ap (λ n. take k (replicate f false) ++ take (k - n) (replicate c true ++ replicate b false)) (length-replicate f false)
    ∙ ap (λ rest. rest ++ take (k - f) (replicate c true ++ replicate b false)) (take_same k f false)
    ∙ ap (λ rest. replicate (min f k) false ++ rest)
    (take_joined (k - f) (replicate c true) (replicate b false)
    ∙ ap (λ n. take (k - f) (replicate c true) ++ take (k - f - n) (replicate b false)) (length-replicate c true)
    ∙ ap (λ rest. rest ++ take (k - f - c) (replicate b false)) (take_same (k - f) c true)
    ∙ ap (λ rest. replicate (min c (k - f)) true ++ rest) (take_same (k - f - c) b false))

drop_run : (k f c b : ℕ) → drop k (one_run f c b) ≡ one_run (f - k) (c - (k - f)) (b - (k - f - c))
drop_run k f c b =
    drop_joined k (replicate f false) (replicate c true ++ replicate b false)
    ∙ ap (λ n. drop k (replicate f false) ++ drop (k - n) (replicate c true ++ replicate b false)) (length-replicate f false)
    ∙ ap (λ rest. rest ++ drop (k - f) (replicate c true ++ replicate b false)) (drop-replicate k f false)
    ∙ ap (λ rest. replicate (f - k) false ++ rest)
    (drop_joined (k - f) (replicate c true) (replicate b false)
    ∙ ap (λ n. drop (k - f) (replicate c true) ++ drop (k - f - n) (replicate b false)) (length-replicate c true)
    ∙ ap (λ rest. rest ++ drop (k - f - c) (replicate b false)) (drop-replicate (k - f) c true)
    ∙ ap (λ rest. replicate (c - (k - f)) true ++ rest) (drop-replicate (k - f - c) b false))

-- ---- runs of lists that are split

pub front_of : (run made : Run) (k : ℕ) (items : List Bool) → made.first ≡ min run.first k → made.count ≡ min run.count (k - run.first) → made.until ≡ min run.until k → IsRun run items → IsRun made (take k items)
front_of run made k items first count until h =
    let known = one_run run.first run.count h.following in
    let b = min h.following (k - run.first - run.count) in
    record {
      following = b;
      rest = take (k - length known) h.rest;
      until = omega (arith, first, count, until, h.until);
      is = ap (take k) h.is ∙ take_joined k known h.rest
          ∙ ap (λ t. t ++ take (k - length known) h.rest) (take_run k run.first run.count h.following
          ∙ ap (λ f. one_run f (min run.count (k - run.first)) b) (sym first)
          ∙ ap (λ c. one_run made.first c b) (sym count));
    }

pub back_of : (run made : Run) (k : ℕ) (items : List Bool) → made.first ≡ run.first - k → made.count ≡ run.count - (k - run.first) → made.until ≡ run.until - k → k ≤ run.until → IsRun run items → IsRun made (drop k items)
back_of run made k items first count until within h =
    let known = one_run run.first run.count h.following in
    let b = h.following - (k - run.first - run.count) in
    let all : k - length known ≡ 0 = omega (arith, run_length run.first run.count h.following, h.until) in
    record {
      following = b;
      rest = h.rest;
      until = omega (arith, first, count, until, h.until);
      is = ap (drop k) h.is ∙ drop_joined k known h.rest
          ∙ ap (λ n. drop k known ++ drop n h.rest) all
          ∙ ap (λ t. t ++ h.rest) (drop_run k run.first run.count h.following
          ∙ ap (λ f. one_run f (run.count - (k - run.first)) b) (sym first)
          ∙ ap (λ c. one_run made.first c b) (sym count));
    }

-- what is known of the list holds of each list that begins with it
pub run_more : (run : Run) (items more : List Bool) → IsRun run items → IsRun run (items ++ more)
run_more run items more h = record {
  following = h.following;
  rest = h.rest ++ more;
  until = h.until;
  is = ap (λ t. t ++ more) h.is ∙ append_assoc (one_run run.first run.count h.following) h.rest more;
}

pub nothing_known : (run : Run) (items : List Bool) → run.first ≡ 0 → run.count ≡ 0 → run.until ≡ 0 → IsRun run items
nothing_known run items first count until = record {
  following = 0;
  rest = items;
  until = omega (arith, first, count, until);
  is = sym (ap (λ f. one_run f run.count 0 ++ items) first ∙ ap (λ c. one_run 0 c 0 ++ items) count);
}

-- ---- runs of lists that are joined

-- of a list of which everything is known nothing is left
all_known : (run : Run) (items : List Bool) (h : IsRun run items) → run.until ≡ length items → items ≡ one_run run.first run.count h.following
all_known run items h all =
    let known = one_run run.first run.count h.following in
    let none = nil_from_length h.rest (omega (arith, all, ap length h.is, length-append known h.rest, run_length run.first run.count h.following, h.until)) in
    h.is ∙ ap (λ t. known ++ t) none ∙ append-nil known

-- the same, joined with a list
joined_known : (run : Run) (items more : List Bool) (h : IsRun run items) → run.until ≡ length items → items ++ more ≡ replicate run.first false ++ (replicate run.count true ++ (replicate h.following false ++ more))
joined_known run items more h all =
    let F = replicate run.first false in
    let C = replicate run.count true in
    let B = replicate h.following false in
    ap (λ t. t ++ more) (all_known run items h all) ∙ append_assoc F (C ++ B) more ∙ ap (λ t. F ++ t) (append_assoc C B more)

-- what is known of the second list, in parts
pub parts_known : (run : Run) (items : List Bool) (h : IsRun run items) → items ≡ replicate run.first false ++ (replicate run.count true ++ (replicate h.following false ++ h.rest))
parts_known run items h =
    let F = replicate run.first false in
    let C = replicate run.count true in
    let B = replicate h.following false in
    h.is ∙ append_assoc F (C ++ B) h.rest ∙ ap (λ t. F ++ t) (append_assoc C B h.rest)

-- from parts to a run
known_parts : (run : Run) (following : ℕ) (rest items : List Bool) → run.until ≡ run.first + (run.count + following) → items ≡ replicate run.first false ++ (replicate run.count true ++ (replicate following false ++ rest)) → IsRun run items
known_parts run following rest items until is =
    let F = replicate run.first false in
    let C = replicate run.count true in
    let B = replicate following false in
    record {
      following = following;
      rest = rest;
      until = until;
      is = is ∙ sym (append_assoc F (C ++ B) rest ∙ ap (λ t. F ++ t) (append_assoc C B rest));
    }

-- `n` of the same and then `m` more
same_joined : (n m : ℕ) (y : Bool) (rest : List Bool) → replicate n y ++ (replicate m y ++ rest) ≡ replicate (n + m) y ++ rest
same_joined n m y rest = sym (append_assoc (replicate n y) (replicate m y) rest) ∙ ap (λ t. t ++ rest) (replicate-append-replicate n m y)

-- preceded by a list of which nothing is true
pub after_none : (run following made : Run) (items more : List Bool) → run.count ≡ 0 → made.first ≡ run.until + following.first → made.count ≡ following.count → made.until ≡ run.until + following.until → IsRun run items → run.until ≡ length items → IsRun following more → IsRun made (items ++ more)
after_none run following made items more none first count until h all m =
    let tail = replicate following.count true ++ (replicate m.following false ++ m.rest) in
    let sum : run.first + h.following + following.first ≡ made.first = omega (arith, none, h.until, first) in
    known_parts made m.following m.rest (items ++ more) (omega (arith, until, first, count, m.until))
    (joined_known run items more h all
    ∙ ap (λ c. replicate run.first false ++ (replicate c true ++ (replicate h.following false ++ more))) none
    ∙ same_joined run.first h.following false more
    ∙ ap (λ t. replicate (run.first + h.following) false ++ t) (parts_known following more m)
    ∙ same_joined (run.first + h.following) following.first false tail
    ∙ ap (λ f. replicate f false ++ tail) sum
    ∙ ap (λ c. replicate made.first false ++ (replicate c true ++ (replicate m.following false ++ m.rest))) (sym count))

-- what is true at the end of a list continues at the front of the next one
pub runs_meet : (run following made : Run) (items more : List Bool) → run.first + run.count ≡ run.until → following.first ≡ 0 → made.first ≡ run.first → made.count ≡ run.count + following.count → made.until ≡ run.until + following.until → IsRun run items → run.until ≡ length items → IsRun following more → IsRun made (items ++ more)
runs_meet run following made items more last start first count until h all m =
    let F = replicate run.first false in
    let C = replicate run.count true in
    let tail = replicate m.following false ++ m.rest in
    let none : h.following ≡ 0 = omega (arith, last, h.until) in
    known_parts made m.following m.rest (items ++ more) (omega (arith, until, first, count, start, last, m.until))
    (joined_known run items more h all
    ∙ ap (λ n. F ++ (C ++ (replicate n false ++ more))) none
    ∙ ap (λ t. F ++ (C ++ t)) (parts_known following more m ∙ ap (λ n. replicate n false ++ (replicate following.count true ++ tail)) start)
    ∙ ap (λ t. F ++ t) (same_joined run.count following.count true tail)
    ∙ ap (λ f. replicate f false ++ (replicate (run.count + following.count) true ++ tail)) (sym first)
    ∙ ap (λ c. replicate made.first false ++ (replicate c true ++ tail)) (sym count))

-- followed by a list of which nothing that is known is true
pub with_none : (run following made : Run) (items more : List Bool) → following.count ≡ 0 → made.first ≡ run.first → made.count ≡ run.count → made.until ≡ run.until + following.until → IsRun run items → run.until ≡ length items → IsRun following more → IsRun made (items ++ more)
with_none run following made items more none first count until h all m =
    let F = replicate run.first false in
    let C = replicate run.count true in
    let b = h.following + (following.first + m.following) in
    known_parts made b m.rest (items ++ more) (omega (arith, until, first, count, none, h.until, m.until))
    (joined_known run items more h all
    ∙ ap (λ t. F ++ (C ++ t)) (ap (λ t. replicate h.following false ++ t) (parts_known following more m
    ∙ ap (λ c. replicate following.first false ++ (replicate c true ++ (replicate m.following false ++ m.rest))) none
    ∙ same_joined following.first m.following false m.rest)
    ∙ same_joined h.following (following.first + m.following) false m.rest)
    ∙ ap (λ f. replicate f false ++ (C ++ (replicate b false ++ m.rest))) (sym first)
    ∙ ap (λ c. replicate made.first false ++ (replicate c true ++ (replicate b false ++ m.rest))) (sym count))

-- followed by a list of which some is true, with others before: up to there it is known
pub with_others : (run following made : Run) (items more : List Bool) → made.first ≡ run.first → made.count ≡ run.count → made.until ≡ run.until + following.first → IsRun run items → run.until ≡ length items → IsRun following more → IsRun made (items ++ more)
with_others run following made items more first count until h all m =
    let F = replicate run.first false in
    let C = replicate run.count true in
    let b = h.following + following.first in
    let tail = replicate following.count true ++ (replicate m.following false ++ m.rest) in
    known_parts made b tail (items ++ more) (omega (arith, until, first, count, h.until))
    (joined_known run items more h all
    ∙ ap (λ t. F ++ (C ++ t)) (ap (λ t. replicate h.following false ++ t) (parts_known following more m) ∙ same_joined h.following following.first false tail)
    ∙ ap (λ f. replicate f false ++ (C ++ (replicate b false ++ tail))) (sym first)
    ∙ ap (λ c. replicate made.first false ++ (replicate c true ++ (replicate b false ++ tail))) (sym count))

pub one_known : (run : Run) (x : Bool) → run.first ≡ 0 → run.until ≡ 1 → run.count ≡ (if x then 1 else 0) → IsRun run (x ∷ [])
one_known run true first until count = known_parts run 0 [] (true ∷ []) (omega (arith, first, until, count)) (sym (ap (λ f. replicate f false ++ (replicate run.count true ++ [])) first ∙ ap (λ c. replicate c true ++ []) count))
one_known run false first until count = known_parts run 1 [] (false ∷ []) (omega (arith, first, until, count)) (sym (ap (λ f. replicate f false ++ (replicate run.count true ++ (false ∷ []))) first ∙ ap (λ c. replicate c true ++ (false ∷ [])) count))

-- ---- the values of items

mapped_more : {T : Type 0} (f : T → Bool) (xs : List T) (i : ℕ) (x : T) → i < length xs → x ≡ get_or xs i x → map f (take i xs) ++ f x ∷ [] ≡ map f (take (i + 1) xs)
mapped_more f xs i x inside is =
    ap (λ y. map f (take i xs) ++ f y ∷ []) is
    ∙ sym (map-append f (take i xs) (get_or xs i x ∷ []))
    ∙ sym (ap (map f) (take_more xs i x inside))

-- one more of the same
pub same_more : {T : Type 0} (f : T → Bool) (xs : List T) (i : ℕ) (x : T) (value : Bool) → i < length xs → x ≡ get_or xs i x → f x ≡ value → map f (take i xs) ≡ replicate i value → map f (take (i + 1) xs) ≡ replicate (i + 1) value
same_more f xs i x value inside is same so_far =
    sym (mapped_more f xs i x inside is) ∙ ap (λ front. front ++ f x ∷ []) so_far ∙ ap (λ v. replicate i value ++ v ∷ []) same ∙ replicate_more i value

pub spliced_values : {T A : Type 0} (f : T → A) (index taken : ℕ) (put items : List T) → splice index taken (map f put) (map f items) ≡ map f (splice index taken put items)
spliced_values f index taken put items =
    ap (λ front. (front ++ map f put) ++ drop (index + taken) (map f items)) (take-map f index items)
    ∙ ap (λ back. (map f (take index items) ++ map f put) ++ back) (drop-map f (index + taken) items)
    ∙ ap (λ front. front ++ map f (drop (index + taken) items)) (sym (map-append f (take index items) put))
    ∙ sym (map-append f (take index items ++ put) (drop (index + taken) items))

one_item : {T : Type 0} (items : List T) (from : ℕ) (x : T) → from < length items → x ≡ get_or items from x → part from 1 items ≡ x ∷ []
one_item items from x inside is = ap (take 1) (drop_more items from x inside) ∙ ap (λ y. y ∷ []) (sym is)

pub moved_values : {T : Type 0} (f : T → Bool) (from to : ℕ) (items : List T) (x : T) → from < length items → x ≡ get_or items from x → splice to 0 (f x ∷ []) (splice from 1 [] (map f items)) ≡ map f (moved from to items)
moved_values f from to items x inside is =
    ap (λ left. splice to 0 (f x ∷ []) left) (spliced_values f from 1 [] items)
    ∙ spliced_values f to 0 (x ∷ []) (splice from 1 [] items)
    ∙ ap (λ put. map f (splice to 0 put (splice from 1 [] items))) (sym (one_item items from x inside is))

-- ---- an item that becomes another of its kind

values_set : {T : Type 0} (f : T → Bool) (items : List T) (index : ℕ) (x y : T) → slice_get items index ≡ Some x → f y ≡ f x → map f (slice_set items index y) ≡ map f items
values_set f [] index x y is same = refl
values_set f (z ∷ items) zero x y is same =
    let z_is : z ≡ x = cc in
    ap (λ b. b ∷ map f items) (same ∙ ap f (sym z_is))
values_set f (z ∷ items) (suc index) x y is same = ap (λ rest. f z ∷ rest) (values_set f items index x y is same)

pub runs_set : {T : Type 0} (of_kind : Kind → T → Bool) (kept : Option Runs) (items : List T) (index : ℕ) (x y : T) → slice_get items index ≡ Some x → ((is : Kind) → of_kind is y ≡ of_kind is x) → IfSome kept (λ runs. AreRunsOf of_kind runs items)
    → IfSome kept (λ runs. AreRunsOf of_kind runs (slice_set items index y))
runs_set of_kind None items index x y is same h = tt
runs_set of_kind (Some runs) items index x y is same h =
    let whole = λ (k : Kind). sym (values_set (of_kind k) items index x y is (same k)) in
    record {
      names = subst (IsRun runs.names) (whole kind.Name) h.names;
      messages = subst (IsRun runs.messages) (whole kind.Message) h.messages;
      keys = subst (IsRun runs.keys) (whole kind.Key) h.keys;
      values = subst (IsRun runs.values) (whole kind.Value) h.values;
    }

-- ---- an item taken out

pub left_length : {A : Type 0} (from : ℕ) (items : List A) → from < length items → length (splice from 1 [] items) + 1 ≡ length items
left_length from items inside =
    let whole : length (splice from 1 [] items) ≡ length (take from items ++ []) + length (drop (from + 1) items) = length-append (take from items ++ []) (drop (from + 1) items) in
    omega (arith, whole, ap length (append-nil (take from items)), length-take-le from items (omega arith), length-drop (from + 1) items)

-- ---- the run that is found

pub found_run : {T : Type 0} (f : T → Bool) (items rest last : List T) (run : Run) → rest ≡ drop run.first items → last ≡ drop run.count rest → map f (take run.first items) ≡ replicate run.first false → map f (take run.count rest) ≡ replicate run.count true
    → (following : ℕ) → run.until ≡ run.first + (run.count + following) → map f (take following last) ≡ replicate following false → IsRunOf f run items
found_run f items rest last run rest_is last_is front middle following until back =
    known_parts run following (map f (drop following last)) (map f items) until
    (ap (map f) (sym (take-append-drop run.first items) ∙ ap (λ t. take run.first items ++ t) (sym rest_is ∙ sym (take-append-drop run.count rest) ∙ ap (λ t. take run.count rest ++ t) (sym last_is ∙ sym (take-append-drop following last))))
    ∙ map-append f (take run.first items) (take run.count rest ++ (take following last ++ drop following last))
    ∙ ap (λ t. map f (take run.first items) ++ t) (map-append f (take run.count rest) (take following last ++ drop following last) ∙ ap (λ t. map f (take run.count rest) ++ t) (map-append f (take following last) (drop following last)))
    ∙ ap (λ t. t ++ (map f (take run.count rest) ++ (map f (take following last) ++ map f (drop following last)))) front
    ∙ ap (λ t. replicate run.first false ++ (t ++ (map f (take following last) ++ map f (drop following last)))) middle
    ∙ ap (λ t. replicate run.first false ++ (replicate run.count true ++ (t ++ map f (drop following last)))) back)

-- ---- items that are all of one kind

-- a value that cannot be true is false
never_true : (value : Bool) → (IsTrue value → ⊥) → value ≡ false
never_true false never = refl
never_true true never = absurd (never refl)

-- items that are all of one kind are of no other
none_other : {T : Type 0} (of_kind : Kind → T → Bool) → ((is other : Kind) (x : T) → IsTrue (of_kind is x) → IsTrue (of_kind other x) → is ≡ other) → (is other : Kind) → (is ≡ other → ⊥) → (items : List T) → map (of_kind is) items ≡ replicate (length items) true → map (of_kind other) items ≡ replicate (length items) false
none_other of_kind one is other differ [] all = refl
none_other of_kind one is other differ (x ∷ items) all =
    let first : of_kind is x ≡ true = ap (λ values. get_or values 0 true) all in
    let rest : map (of_kind is) items ≡ replicate (length items) true = ap (drop 1) all in
    let none = never_true (of_kind other x) (λ there. differ (one is other x first there)) in
    ap (λ value. value ∷ map (of_kind other) items) none ∙ ap (λ values. false ∷ values) (none_other of_kind one is other differ items rest)

-- the run of items that are all of the kind
pub all_of_one : {T : Type 0} (is_of : T → Bool) (items : List T) (run : Run) → map is_of items ≡ replicate (length items) true → IsRun run (replicate (length items) true) → IsRunOf is_of run items
all_of_one is_of items run all known = subst (IsRun run) (sym all) known

-- the run of another kind in them
pub none_of_others : {T : Type 0} (of_kind : Kind → T → Bool) → ((is other : Kind) (x : T) → IsTrue (of_kind is x) → IsTrue (of_kind other x) → is ≡ other) → (is other : Kind) → (is ≡ other → ⊥) → (items : List T) (run : Run) → map (of_kind is) items ≡ replicate (length items) true → IsRun run (replicate (length items) false) → IsRunOf (of_kind other) run items
none_of_others of_kind one is other differ items run all known = subst (IsRun run) (sym (none_other of_kind one is other differ items all)) known

-- ---- an item after the others

pub spliced_at_end : {A : Type 0} (items put : List A) (n : ℕ) → n ≡ length items → splice n 0 put items ≡ items ++ put
spliced_at_end items put n all =
    let following : n + 0 ≡ n = omega arith in
    ap (λ t. (t ++ put) ++ drop (n + 0) items) (take_all n items (omega (arith, all)))
    ∙ ap (λ k. (items ++ put) ++ drop k items) following
    ∙ ap (λ t. (items ++ put) ++ t) (drop_all n items (omega (arith, all)))
    ∙ append-nil (items ++ put)

-- the run of a list and of a part after it, which is spliced in at its end
pub run_with_part : {T : Type 0} (f : T → Bool) (items put : List T) (seen : ℕ) {run following made : Run} → seen ≡ length items → IsRunOf f run items → IsRunOf f following put
    → ((values come : List Bool) → IsRun run values → seen ≤ length values → IsRun following come → length put ≡ length come → IsRun made (splice seen 0 come values)) → IsRunOf f made (items ++ put)
run_with_part f items put seen all known found spliced =
    let long = length-map items f in
    let here : seen ≡ length (map f items) = omega (arith, all, long) in
    subst (IsRun _) (spliced_at_end (map f items) (map f put) seen here ∙ sym (map-append f items put)) (spliced (map f items) (map f put) known (omega (arith, here)) found (sym (length-map put f)))

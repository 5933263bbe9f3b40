-- A step takes the last change of one list, and what leads back is last in the other.
use Rattle.std.proofs.Common.{◌≡◌, ℕ, zero, suc, ◌+◌, ◌-◌, ◌<◌, List, [], ◌∷◌, ◌++◌, length, map, reverse, get_or, take, drop, Some, None, Result, Ok, Err, is_ok, IsErr, slice_get, slice_set, if◌then◌else◌, refl, sym, ap, ◌∙◌, subst, arith}
use Rattle.std.proofs.lemmas.List.{length-drop, length-map, length-reverse, length-set, reverse-append, take_all, take_at, take_more, take_more_set, length_push, get_or_push}
use Rattle.std.proofs.lemmas.Bool.{false≢true}
use Rattle.std.proofs.lemmas.Option.{slice_get_within, slice_get-get_or, slice_get_read, get_or_from_slice_get, same_Some, none-some}
use Rattle.circular_buffer.specs.Buffer.{keep_last, last_item}
use Rattle.mvt_document.specs.Plain.{Document}
use Rattle.mvt_change.specs.Changes as plain
use Rattle.mvt_change.specs.Changes.{Fits, go, turn}
use Rattle.mvt_change.specs.ChangeStands.{change_of}
use Rattle.mvt_change.specs.Joining.{FitAlong, go_along}
use Rattle.mvt_change.specs.declared.change.Change.{Change}
use Rattle.mvt_history_steps.specs.Held.{from_last}
use Rattle.mvt_history_steps.specs.Moves.{Track, step_over, stepped, walked}

-- ---- the last item of a list

module _ {X : Type 0} where
  -- a list ends in its last item
  pub ends_in : (items : List X) (item : X) → slice_get items (length items - 1) ≡ Some item → items ≡ take (length items - 1) items ++ item ∷ []
  ends_in items item is =
      let at = length items - 1 in
      let inside = slice_get_within items at item is in
      sym (take_all (at + 1) items (omega (arith, inside)))
      ∙ take_more items at item inside
      ∙ ap (λ last. take at items ++ last ∷ []) (get_or_from_slice_get items at item item is)

  -- it ends in what is put in its place
  pub ends_in_set : (items : List X) (item other : X) → slice_get items (length items - 1) ≡ Some item → slice_set items (length items - 1) other ≡ take (length items - 1) items ++ other ∷ []
  ends_in_set items item other is =
      let at = length items - 1 in
      let inside = slice_get_within items at item is in
      sym (take_all (at + 1) (slice_set items at other) (omega (arith, inside, length-set items at other)))
      ∙ take_more_set items at other inside

  -- a list of some items has a last one
  pub has_last : (items : List X) → 0 < length items → None ≡ slice_get items (length items - 1) → ⊥
  has_last [] some none = absurd (omega arith)
  has_last (first ∷ items) some none = none-some _ (none ∙ slice_get-get_or (first ∷ items) (length (first ∷ items) - 1) first (omega arith))

  pub last_pushed : (items : List X) (item : X) → last_item (items ++ item ∷ []) ≡ Some item
  last_pushed items item =
      let long = length_push items item in
      let at = length (items ++ item ∷ []) - 1 in
      slice_get-get_or (items ++ item ∷ []) at item (omega (arith, long)) ∙ ap Some (get_or_push items item item at (omega (arith, long)))

  pub before_pushed : (items : List X) (item : X) → take (length (items ++ item ∷ []) - 1) (items ++ item ∷ []) ≡ items
  before_pushed items item = take_at items (item ∷ []) (length (items ++ item ∷ []) - 1) (omega (arith, length_push items item))

  -- if there is room for one more, all are kept
  pub keeps_pushed : (capacity : ℕ) (items : List X) (item : X) → length items < capacity → keep_last capacity (items ++ item ∷ []) ≡ items ++ item ∷ []
  keeps_pushed capacity items item room =
      let none : length (items ++ item ∷ []) - capacity ≡ 0 = omega (arith, room, length_push items item) in
      ap (λ n. drop n (items ++ item ∷ [])) none

-- ---- changes, the last one first

pub from_last_push : (changes : List Change) (change : Change) → from_last (changes ++ change ∷ []) ≡ change_of change ∷ from_last changes
from_last_push changes change = ap (map change_of) (reverse-append changes (change ∷ []))

pub length_from_last : (changes : List Change) → length (from_last changes) ≡ length changes
length_from_last changes = length-map (reverse changes) change_of ∙ length-reverse changes

pub from_last_ends : (changes : List Change) (change : Change) → slice_get changes (length changes - 1) ≡ Some change → from_last changes ≡ change_of change ∷ from_last (take (length changes - 1) changes)
from_last_ends changes change is = ap from_last (ends_in changes change is) ∙ from_last_push (take (length changes - 1) changes) change

-- the last one fits
pub last_fits : (changes : List Change) (change : Change) (document : Document) → slice_get changes (length changes - 1) ≡ Some change → FitAlong (from_last changes) document → Fits (change_of change) document
last_fits changes change document is fit = (subst (λ all. FitAlong all document) (from_last_ends changes change is) fit).0

-- one that stands for the same is put in its place
pub same_put_back : (changes : List Change) (change other : Change) → slice_get changes (length changes - 1) ≡ Some change → change_of other ≡ change_of change → from_last (slice_set changes (length changes - 1) other) ≡ from_last changes
same_put_back changes change other is same =
    let front = take (length changes - 1) changes in
    ap from_last (ends_in_set changes change other is)
    ∙ from_last_push front other
    ∙ ap (λ c. c ∷ from_last front) same
    ∙ sym (from_last_ends changes change is)

-- ---- a step

abbrev pub walk_of : Document → List plain.Change → List plain.Change → Track
walk_of document ahead behind = record { document = document; ahead = ahead; behind = behind }

pub same_walk : (d e : Document) (a b p q : List plain.Change) → d ≡ e → a ≡ b → p ≡ q → walk_of d a p ≡ walk_of e b q
same_walk d e a b p q documents ahead behind = ap (λ x. walk_of x a p) documents ∙ ap (λ x. walk_of e x p) ahead ∙ ap (λ x. walk_of e b x) behind

pub step_taken : (from to held : List Change) (capacity : ℕ) (change flipped popped : Change) (before after : Document) → slice_get from (length from - 1) ≡ Some change → length to < capacity → held ≡ slice_set from (length from - 1) flipped → Some popped ≡ last_item held → after ≡ go (change_of change) before → change_of flipped ≡ turn (change_of change) before → walk_of after (from_last (take (length held - 1) held)) (from_last (keep_last capacity (to ++ popped ∷ []))) ≡ stepped (walk_of before (from_last from) (from_last to))
step_taken from to held capacity change flipped popped before after is room held_is last documents turned =
    let front = take (length from - 1) from in
    let ends : held ≡ front ++ flipped ∷ [] = held_is ∙ ends_in_set from change flipped is in
    let same : popped ≡ flipped = same_Some popped flipped (last ∙ ap last_item ends ∙ last_pushed front flipped) in
    same_walk _ _ _ _ _ _
    documents
    (ap (λ all. from_last (take (length all - 1) all)) ends ∙ ap from_last (before_pushed front flipped))
    (ap from_last (keeps_pushed capacity to popped room) ∙ from_last_push to popped ∙ ap (λ c. change_of c ∷ from_last to) same ∙ ap (λ c. c ∷ from_last to) turned)
    ∙ ap (λ ahead. step_over ahead (walk_of before (from_last from) (from_last to))) (sym (from_last_ends from change is))

-- what is answered if it is refused
pub on_refusal : {A E X : Type 0} (answer : Result A E) (accepted refused : X) → IsErr answer → (if is_ok answer then accepted else refused) ≡ refused
on_refusal (Ok done) accepted refused err = absurd (false≢true err)
on_refusal (Err error) accepted refused err = refl

-- ---- steps

-- after `taken` steps the changes ahead fit, and as many have moved behind
pub record IsOnTheWay (before : Track) (taken : ℕ) (now : Track) : Type 0 where
  pub is : now ≡ walked taken before
  pub fit : FitAlong now.ahead now.document
  pub ahead : length now.ahead + taken ≡ length before.ahead
  pub behind : length now.behind ≡ length before.behind + taken

over_stays : (ahead behind : List plain.Change) (document : Document) → FitAlong ahead document → 0 < length ahead → (next : Track) → next ≡ step_over ahead (walk_of document ahead behind) → FitAlong next.ahead next.document × (length next.ahead + 1 ≡ length ahead) × (length next.behind ≡ length behind + 1)
over_stays [] behind document fit some next is = absurd (omega (arith, some))
over_stays (change ∷ ahead) behind document fit some next is =
    let made = walk_of (go change document) ahead (turn change document ∷ behind) in
    subst (λ (w : Track). FitAlong w.ahead w.document × (length w.ahead + 1 ≡ suc (length ahead)) × (length w.behind ≡ length behind + 1)) (sym is) (fit.1, omega arith, omega arith)

pub further : (before now next : Track) (taken : ℕ) → IsOnTheWay before taken now → taken < length before.ahead → next ≡ stepped now → IsOnTheWay before (taken + 1) next
further before now next taken way left is =
    let stays = over_stays now.ahead now.behind now.document way.fit (omega (arith, way.ahead, left)) next is in
    let one : taken + 1 ≡ suc taken = omega arith in
    record {
      is = is ∙ ap stepped way.is ∙ ap (λ n. walked n before) (sym one);
      fit = stays.0;
      ahead = omega (arith, stays.1, way.ahead);
      behind = omega (arith, stays.2, way.behind);
    }

-- ---- changes that are dropped

next_on : (changes rest : List plain.Change) (taken : ℕ) (change : plain.Change) (document : Document) → drop taken changes ≡ change ∷ rest → (go_along (take (suc taken) changes) document ≡ go change (go_along (take taken changes) document)) × (drop (suc taken) changes ≡ rest)
next_on [] rest zero change document is = absurd cc
next_on [] rest (suc taken) change document is = absurd cc
next_on (first ∷ changes) rest zero change document is =
    let same : first ≡ change = cc in
    let others : changes ≡ rest = cc in
    (ap (λ c. go c document) same, others)
next_on (first ∷ changes) rest (suc taken) change document is = next_on changes rest taken change (go first document) is

-- the next one after `taken` changes is carried out
pub one_more : (changes rest : List plain.Change) (taken : ℕ) (change : plain.Change) (document : Document) → drop taken changes ≡ change ∷ rest → (go_along (take (taken + 1) changes) document ≡ go change (go_along (take taken changes) document)) × (drop (taken + 1) changes ≡ rest)
one_more changes rest taken change document is =
    let one : suc taken ≡ taken + 1 = omega arith in
    subst (λ n. (go_along (take n changes) document ≡ go change (go_along (take taken changes) document)) × (drop n changes ≡ rest)) one (next_on changes rest taken change document is)

-- after `taken` changes were carried out and dropped, the others are left
pub record IsTakenBack (all : List plain.Change) (before : Document) (taken : ℕ) (left : List plain.Change) (now : Document) : Type 0 where
  pub document : now ≡ go_along (take taken all) before
  pub rest : left ≡ drop taken all
  pub fit : FitAlong left now

pub taken_further : (all left next : List plain.Change) (change : plain.Change) (taken : ℕ) (before now after : Document) → IsTakenBack all before taken left now → left ≡ change ∷ next → after ≡ go change now → IsTakenBack all before (taken + 1) next after
taken_further all left next change taken before now after way is made =
    let more = one_more all next taken change before (sym way.rest ∙ is) in
    record {
      document = made ∙ ap (go change) way.document ∙ sym more.0;
      rest = sym more.1;
      fit = subst (FitAlong next) (sym made) (subst (λ all. FitAlong all now) is way.fit).1;
    }

pub others_left : (all left : List plain.Change) (before now : Document) (taken : ℕ) → IsTakenBack all before taken left now → taken < length all → 0 < length left
others_left all left before now taken way some = omega (arith, ap length way.rest, length-drop taken all)

-- the last one leaves, turned or not, and those before it are left
pub left_before : (changes held left : List Change) (change flipped : Change) → slice_get changes (length changes - 1) ≡ Some change → held ≡ slice_set changes (length changes - 1) flipped → left ≡ take (length held - 1) held → from_last changes ≡ change_of change ∷ from_last left
left_before changes held left change flipped is held_is left_is =
    let front = take (length changes - 1) changes in
    let ends : held ≡ front ++ flipped ∷ [] = held_is ∙ ends_in_set changes change flipped is in
    let same : left ≡ front = left_is ∙ ap (λ all. take (length all - 1) all) ends ∙ before_pushed front flipped in
    from_last_ends changes change is ∙ ap (λ rest. change_of change ∷ from_last rest) (sym same)

-- the last item as a list of `count` items shows it
pub shown_last : (changes : List Change) (count : ℕ) (change : Change) → count ≡ length changes → 0 < count → change ≡ get_or changes (count - 1) change → slice_get changes (length changes - 1) ≡ Some change
shown_last changes count change long some is =
    ap (λ n. slice_get changes (n - 1)) (sym long) ∙ slice_get_read changes count (count - 1) change long (omega (arith, some)) is

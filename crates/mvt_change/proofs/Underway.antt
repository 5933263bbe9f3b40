-- A change that is under way, and one that is taken back.
use Rattle.std.proofs.Common.{◌≡◌, ℕ, ◌+◌, ◌-◌, ◌<◌, ◌≤◌, get_or, set, length, List, [], ◌∷◌, ◌++◌, map, reverse, take, drop, append_assoc, refl, sym, ap, ◌∙◌, subst, arith}
use Rattle.std.proofs.Math.Seq.{take-append-add}
use borrow.Rule.Slice.PartMut.{put_mid}
use Rattle.std.proofs.lemmas.List.{append-nil, length-take-le, map-append, reverse-append, take_all, take_more, take_more_set, take-set, drop_all, drop_at, drop-drop, length-drop, take-append-drop, drop_more, drop-set, drop-set-lt}
use Rattle.mvt_document.specs.Plain as plain
use Rattle.mvt_document.specs.Stands.{document_of}
use Rattle.mvt_document.specs.declared.document.Document.{Document}
use Rattle.mvt_change.specs.declared.change.Step.{Step}
use Rattle.mvt_change.specs.ChangeStands.{action_of, step_of}
use Rattle.mvt_change.specs.Changes.{Change, go_step, go, Fits, FitsStep, turn_step, turn}
use Rattle.mvt_change.specs.Room.{KeepsDocument}
use Rattle.mvt_change.specs.Underway.{IsUnderway, Advances}
use Rattle.mvt_change.specs.HeldChanges.{go_held_step, go_held, ActionHasRoom, HaveRoom, IsTurned, AreTurned}
use Rattle.mvt_change.proofs.Turning.{go_joined, fit_joined, turn_joined, turned_back as leads_to_start, turned_twice}
use Rattle.mvt_change.proofs.Keeping.{document_order}
use Rattle.mvt_change.proofs.Actions.{turned_stands}
use Rattle.mvt_change.proofs.TurnedRuns.{keeps_stands, kept_goes, steps_stand, have_room_keeps, have_room_joined, all_stand, all_lead_back}

module _ (change : Change) (start : plain.Document) (made rest : List Step) (document : Document) (under : IsUnderway change start made rest document) where
  fit : Fits under.first start × Fits (map step_of rest) (go under.first start)
  fit = (fit_joined under.first (map step_of rest) start).0 (subst (λ c. Fits c start) (sym under.all) under.fits)

  pub rest_fits : Fits (map step_of rest) (document_of document)
  rest_fits = subst (Fits (map step_of rest)) (sym under.stands) fit.1

  pub leads_back : go (map step_of made) (document_of document) ≡ start
  leads_back = ap (λ t. go t (document_of document)) under.turns ∙ ap (go (turn under.first start)) under.stands ∙ leads_to_start under.first start fit.0

  pub turns_back : turn (map step_of made) (document_of document) ++ map step_of rest ≡ change
  turns_back =
      rw (under.turns, under.stands, turned_twice under.first start fit.0) under.all

-- where none are left, the change is made
pub ends : (change : Change) (start : plain.Document) (made rest : List Step) (document : Document) → rest ≡ [] → IsUnderway change start made rest document → (document_of document ≡ go change start) × (map step_of made ≡ turn change start)
ends change start made rest document none under =
    let all : under.first ≡ change = sym (append-nil under.first) ∙ ap (λ left. under.first ++ map step_of left) (sym none) ∙ under.all in
    (under.stands ∙ ap (λ c. go c start) all, under.turns ∙ ap (λ c. turn c start) all)

-- several more steps are made, and turned
goes_on : (change : Change) (start : plain.Document) (made run rest turned : List Step) (document after : Document)
    → IsUnderway change start made (run ++ rest) document
    → KeepsDocument (go_held run document) after
    → AreTurned run document turned
    → IsUnderway change start (reverse turned ++ made) rest after
goes_on change start made run rest turned document after under keeps are =
    let runs = map step_of run in
    let first = under.first in
    let apart : map step_of (run ++ rest) ≡ runs ++ map step_of rest = map-append step_of run rest in
    let fits : Fits (runs ++ map step_of rest) (document_of document) = subst (λ c. Fits c (document_of document)) apart (rest_fits change start made (run ++ rest) document under) in
    let lead = all_lead_back run document turned after ((fit_joined runs (map step_of rest) (document_of document)).0 fits).0 are keeps in
    record {
      first = first ++ runs;
      all = append_assoc first runs (map step_of rest) ∙ ap (λ c. first ++ c) (sym apart) ∙ under.all;
      fits = under.fits;
      stands = sym (keeps_stands (go_held run document) after keeps) ∙ steps_stand run document ∙ ap (go runs) under.stands ∙ sym (go_joined first runs start);
      turns = rw (map-append, all_stand run document turned are, under.stands, under.turns) (sym (turn_joined first runs start));
      room = have_room_joined (reverse turned) made after lead.room (have_room_keeps made document (go_held (reverse turned) after) lead.back under.room);
    }

-- nothing more is made, in a document that is the same
stays : (change : Change) (start : plain.Document) (made rest other : List Step) (document after : Document) → map step_of other ≡ map step_of rest → KeepsDocument document after → IsUnderway change start made rest document → IsUnderway change start made other after
stays change start made rest other document after same keeps under = record {
  first = under.first;
  all = ap (λ left. under.first ++ left) same ∙ under.all;
  fits = under.fits;
  stands = sym (keeps_stands document after keeps) ∙ under.stands;
  turns = under.turns;
  room = have_room_keeps made document after keeps under.room;
}

-- before the first step
pub begins : (steps : List Step) (document : Document) → Fits (map step_of steps) (document_of document) → IsUnderway (map step_of steps) (document_of document) [] steps document
begins steps document fits = record { first = []; all = refl; fits = fits; stands = refl; turns = refl; room = tt }

-- ---- the first steps of more

-- the first steps are made, and the others are the same but for room
pub first_advance : (n : ℕ) (steps new : List Step) (document after : Document) → KeepsDocument (go_held (take n steps) document) after → AreTurned (take n steps) document (take n new) → map step_of (drop n new) ≡ map step_of (drop n steps) → Advances n steps new document after
first_advance n steps new document after keeps are same change start made under =
    let apart = subst (λ left. IsUnderway change start made left document) (sym (take-append-drop n steps)) under in
    let on = goes_on change start made (take n steps) (drop n steps) (take n new) document after apart keeps are in
    stays change start (reverse (take n new) ++ made) (drop n steps) (drop n new) after after same (document_order.same after) on

pub front_fits : (n : ℕ) (steps : List Step) (document : Document) → Fits (map step_of steps) (document_of document) → Fits (map step_of (take n steps)) (document_of document)
front_fits n steps document fits =
    let apart : map step_of steps ≡ map step_of (take n steps) ++ map step_of (drop n steps) = ap (map step_of) (sym (take-append-drop n steps)) ∙ map-append step_of (take n steps) (drop n steps) in
    ((fit_joined (map step_of (take n steps)) (map step_of (drop n steps)) (document_of document)).0 (subst (λ c. Fits c (document_of document)) apart fits)).0

-- none are made, in a document that is the same
pub none_advance : (steps new : List Step) (document after : Document) → KeepsDocument document after → map step_of new ≡ map step_of steps → Advances 0 steps new document after
none_advance steps new document after keeps same change start made under = stays change start made steps new document after same keeps under

-- ---- after steps that were made

module _ (change : Change) (start : plain.Document) (from n : ℕ) (steps part : List Step) (document after : Document) (within : from ≤ length steps) (under : IsUnderway change start (reverse (take from steps)) (drop from steps) document) where
  abbrev count : ℕ
  count = length steps - from

  abbrev whole : List Step
  whole = put_mid from count steps part

  pub after_fits : Fits (map step_of (take count (drop from steps))) (document_of document)
  after_fits = front_fits count (drop from steps) document (rest_fits change start (reverse (take from steps)) (drop from steps) document under)

  pub goes_after : Advances n (take count (drop from steps)) part document after → IsUnderway change start (reverse (take (from + n) whole)) (drop (from + n) whole) after
  goes_after advances =
      let front = take from steps in
      let rest = drop from steps in
      let left : length rest ≡ count = length-drop from steps in
      let long : length front ≡ from = length-take-le from steps within in
      let is : whole ≡ front ++ part = ap (λ none. front ++ (part ++ none)) (drop_all count rest (omega (arith, left))) ∙ ap (λ p. front ++ p) (append-nil part) in
      let first : take (from + n) whole ≡ front ++ take n part = ap (take (from + n)) is ∙ ap (λ k. take (k + n) (front ++ part)) (sym long) ∙ take-append-add front part n in
      let last : drop (from + n) whole ≡ drop n part = ap (drop (from + n)) is ∙ sym (drop-drop n from (front ++ part)) ∙ ap (drop n) (drop_at front part from long) in
      let all = subst (λ r. Advances n r part document after) (take_all count rest (omega (arith, left))) advances in
      rw (first, last, reverse-append front (take n part)) (all change start (reverse front) under)

-- ---- steps in a list, one after the other

module _ (change : Change) (start : plain.Document) (made steps : List Step) (at : ℕ) (step next : Step) (document after : Document) (within : at < length steps) (is : step ≡ get_or steps at step) (under : IsUnderway change start (reverse (take at steps) ++ made) (drop at steps) document) where
  following : drop at steps ≡ step ∷ drop (at + 1) steps
  following = drop_more steps at step within ∙ ap (λ s. s ∷ drop (at + 1) steps) (sym is)

  there : IsUnderway change start (reverse (take at steps) ++ made) (step ∷ drop (at + 1) steps) document
  there = subst (λ left. IsUnderway change start (reverse (take at steps) ++ made) left document) following under

  pub next_fits : FitsStep (step_of step) (document_of document)
  next_fits = let fits = rest_fits change start (reverse (take at steps) ++ made) (step ∷ drop (at + 1) steps) document there in fits.0

  pub one_more : KeepsDocument (go_held_step step document) after → IsTurned step document next → IsUnderway change start (reverse (take (at + 1) (set steps at next)) ++ made) (drop (at + 1) (set steps at next)) after
  one_more keeps turned =
      rw (take_more_set steps at next within, reverse-append (take at steps) (next ∷ []), drop-set-lt (at + 1) steps at next (omega arith))
      (goes_on change start (reverse (take at steps) ++ made) (step ∷ []) (drop (at + 1) steps) (next ∷ []) document after there keeps (turned, tt))

  pub no_more : KeepsDocument document after → step_of next ≡ step_of step → IsUnderway change start (reverse (take at (set steps at next)) ++ made) (drop at (set steps at next)) after
  no_more keeps same =
      rw (take-set steps at next, drop-set steps at next within)
      (stays change start (reverse (take at steps) ++ made) (step ∷ drop (at + 1) steps) (next ∷ drop (at + 1) steps) document after (ap (λ s. s ∷ map step_of (drop (at + 1) steps)) same) keeps there)

-- ---- steps that are taken back, the last first

-- what is left to take back leads to a document, and turned before the others is a change
pub record TakesBack (steps : Change) (start : plain.Document) (left rest : List Step) (document : Document) : Type 0 where
  pub room : HaveRoom left document
  pub goes : go (map step_of left) (document_of document) ≡ start
  pub turned : turn (map step_of left) (document_of document) ++ map step_of rest ≡ steps

takes_on : (steps : Change) (start : plain.Document) (left rest : List Step) (step next : Step) (document after : Document)
    → TakesBack steps start (step ∷ left) rest document
    → document_of after ≡ go_step (step_of step) (document_of document)
    → step_of next ≡ turn_step (step_of step) (document_of document)
    → KeepsDocument (go_held_step step document) after
    → TakesBack steps start left (next ∷ rest) after
takes_on steps start left rest step next document after takes makes turns keeps =
    let s = step_of step in
    let d = document_of document in
    let lefts = map step_of left in
    record {
      room = have_room_keeps left (go_held_step step document) after keeps takes.room.1;
      goes = ap (go lefts) makes ∙ takes.goes;
      turned = rw (makes, turns, ← append_assoc (turn lefts (go_step s d)) (turn_step s d ∷ []) (map step_of rest)) takes.turned;
    }

-- the same where the steps stand in a list, up to a position
module _ (steps : Change) (start : plain.Document) (items : List Step) (n i : ℕ) (d : Step) (document : Document) (next : n ≡ i + 1) (within : i < length items) (takes : TakesBack steps start (reverse (take n items)) (drop n items) document) where
  abbrev step : Step
  step = get_or items i d

  last_before : reverse (take n items) ≡ step ∷ reverse (take i items)
  last_before = ap (λ k. reverse (take k items)) next ∙ ap reverse (take_more items i d within) ∙ reverse-append (take i items) (step ∷ [])

  pub next_has_room : ActionHasRoom (action_of step) document
  next_has_room = let room = subst (λ left. HaveRoom left document) last_before takes.room in room.0

  pub takes_on_at : (turned : Step) (after : Document) → KeepsDocument (go_held_step step document) after → IsTurned step document turned → TakesBack steps start (reverse (take i (set items i turned))) (drop i (set items i turned)) after
  takes_on_at turned after keeps is =
      let before = subst (λ left. TakesBack steps start left (drop n items) document) last_before takes in
      let following = takes_on steps start (reverse (take i items)) (drop n items) step turned document after before (kept_goes step document after keeps) (turned_stands (action_of step) document (action_of turned) is) keeps in
      let first : drop i (set items i turned) ≡ turned ∷ drop n items = drop-set items i turned within ∙ ap (λ k. turned ∷ drop k items) (sym next) in
      rw (take-set items i turned, first) following

-- Going back to a mark brings back the document that stood when it was set.
use Rattle.std.proofs.Common.{◌≡◌, ℕ, ◌+◌, ◌-◌, ◌≤◌, ◌==◌, Bool, true, false, ◌&&◌, ◌||◌, not, is_some, nat_le, nat_lt, Option, None, Some, Result, Ok, Err, List, [], ◌∷◌, length, take, refl, sym, ap, subst, ◌∙◌, inl, inr, arith, length-take-le, IfOk, if◌then◌else◌}
use Rattle.std.specs.List.{AllByRecursion, filter}
use Rattle.std.specs.Ordering.{is_eq, ordering_reverse}
use Rattle.std.specs.declared.cmp.Ordering.{Ordering}
use Rattle.std.specs.declared.cmp.Ordering.TheVariants.{Less, Equal, Greater}
use Rattle.std.proofs.lemmas.Bool.{cases_Bool}
use Rattle.std.proofs.lemmas.Bool.Decides.{nat_tests}
use Rattle.std.proofs.lemmas.Cmp.{nat_list_cmp_total}
use Rattle.std.proofs.lemmas.List.{take-append-le, take-take}
use Rattle.std.proofs.lemmas.Map.Lookups.{exact_bytes}
use Rattle.mvt_document.specs.Plain.{Document}
use Rattle.mvt_meaning.specs.Command.{Command}
use Rattle.mvt_meaning.specs.Meaning.{applied}
use Rattle.mvt_meaning.specs.declared.refusal.Refusal.{Refusal}
use Rattle.mvt_document.proofs.EachItem.{all_joined}
use Rattle.mvt_history_steps.specs.Marks.{Mark, compared, has_name, is_before, is_after, point_of, bound, unbound}
use Rattle.mvt_history_steps.specs.History.{History, IsSound, after_all, after_steps, document_at, standing_document, commands_in, at_point, with_marks, with_group, with_step, with_command, edited_to, edited, unless_open, undone, redone, marked, unmarked, gone_to, gone_back, opened, ended, closed, cancelled}
use Rattle.mvt_meaning.specs.Requests.{HistoryRequest, Edit, Undo, Redo, SetMark, TakeMark, GoBack, Begin, End, Cancel}
use Rattle.mvt_history_steps.specs.Requests.{SetsOther, or_before, asked, asked_all}
use Rattle.mvt_history_steps.proofs.Sound.{or_before_has}
use Rattle.run_laws.specs.HistoryLaws.{StaysSound, BackToTheMark}
use Rattle.mvt_history_steps.specs.declared.TheConstants.{MAX_MARKS}
use Rattle.mvt_history_steps.specs.declared.error.HistoryError.{HistoryError}
use Rattle.mvt_history_steps.specs.declared.error.HistoryError.TheVariants.{NothingToUndo, NothingToRedo, NoMark, TooManyMarks, NoGroup}
use Rattle.mvt_meaning.proofs.Elements.{all_filtered}
use Rattle.mvt_history_steps.proofs.MarkOrder.{all_passed, all_bound}
use Rattle.run_laws.proofs.UndosRedos.{none_open}

-- ---- what marks of a name say of a document

-- if the mark has the name, the document is the one of its point
abbrev pub MarksDocument : List ℕ → Document → History → Mark → Type 0
MarksDocument name document history mark = mark.name ≡ name → document_at mark.point history ≡ document

-- the name marks this document or none
abbrev pub KeepsMark : List ℕ → Document → History → Type 0
KeepsMark name document history = AllByRecursion (MarksDocument name document history) history.marks

-- ---- names

equal_to_itself : (order : Ordering) → order ≡ ordering_reverse order → order ≡ Equal
equal_to_itself Less e = absurd cc
equal_to_itself Equal e = refl
equal_to_itself Greater e = absurd cc

pub same_name : (name : List ℕ) → compared name name ≡ Equal
same_name name = equal_to_itself (compared name name) (nat_list_cmp_total.antisymm name name)

named_so : (order : Ordering) → is_eq order ≡ true → order ≡ Equal
named_so Less e = absurd cc
named_so Equal e = refl
named_so Greater e = absurd cc

-- what holds of the points of all marks of a name holds of the one that is looked up
named_point : (P : ℕ → Type 0) (name : List ℕ) (marks : List Mark) → AllByRecursion (λ mark. mark.name ≡ name → P mark.point) marks → (point : ℕ) → point_of name marks ≡ Some point → P point
named_point P name [] all point e = absurd cc
named_point P name (mark ∷ marks) all point e =
    elim (cases_Bool (has_name name mark)) [
      | inl there ↦ (
          let first = rw there at e in
          let same : mark.point ≡ point = cc in
          subst P same (all.0 (exact_bytes mark.name name (named_so (compared mark.name name) there)))
          )
      | inr other ↦ named_point P name marks all.1 point (rw other at e)
    ]

-- the marks other than the one that is set have other names
only_bound : (P : Mark → Type 0) (name : List ℕ) (point : ℕ) (marks : List Mark) → P (record { name = name; point = point }) → AllByRecursion (λ mark. mark.name ≡ name → P mark) (bound name point marks)
only_bound P name point marks new =
    let Q : Mark → Type 0 = λ mark. mark.name ≡ name → P mark in
    let same = same_name name in
    all_joined Q (filter (is_before name) marks) (record { name = name; point = point } ∷ filter (is_after name) marks)
    (all_passed Q (is_before name) (λ mark before e. absurd (let self = rw e at before in let no = rw same at self in cc)) marks)
    (λ e. new, all_passed Q (is_after name) (λ mark following e. absurd (let self = rw e at following in let no = rw same at self in cc)) marks)

-- ---- with a further step

-- what holds of each, and is added where the test is passed
all_kept : {A : Type 0} (P Q : A → Type 0) (test : A → Bool) → ((x : A) → Q x → test x ≡ true → P x) → (xs : List A) → AllByRecursion Q xs → AllByRecursion P (filter test xs)
all_kept P Q test more [] all = tt
all_kept P Q test more (x ∷ xs) all =
    elim (cases_Bool (test x)) [ inl kept ↦ rw kept (more x all.0 kept, all_kept P Q test more xs all.1) | inr gone ↦ rw gone (all_kept P Q test more xs all.1) ]

second_test : (first : Bool) (low high : ℕ) → (first && nat_le low high) ≡ true → low ≤ high
second_test true low high e = grind (arith, nat_tests, e)
second_test false low high e = absurd cc

-- the documents up to the present point stay
pub document_below : (step : List Command) (history : History) (point : ℕ) → history.present ≤ length history.steps → point ≤ history.present → document_at point (with_step step history) ≡ document_at point history
document_below step history point within below =
    let stand = take history.present history.steps in
    let all : length stand ≡ history.present = length-take-le history.present history.steps within in
    let front = take-append-le point stand (step ∷ []) (omega (arith, all, below)) ∙ take-take point history.present history.steps below in
    ap (λ steps. after_steps steps history.start) front

module _ (name : List ℕ) (document : Document) where
  abbrev Keeps : History → Type 0
  Keeps = KeepsMark name document

  keeps_with_step : (step : List Command) (history : History) → IsSound history → Keeps history → Keeps (with_step step history)
  keeps_with_step step history sound keeps =
      let after = with_step step history in
      let stays : (mark : Mark) → MarksDocument name document history mark → (nat_le after.floor mark.point && nat_le mark.point history.present) ≡ true → MarksDocument name document after mark =
      λ mark before kept e. document_below step history mark.point sound.within_steps (second_test (nat_le after.floor mark.point) mark.point history.present kept) ∙ before e in
      all_kept (MarksDocument name document after) (MarksDocument name document history) (λ mark. nat_le after.floor mark.point && nat_le mark.point history.present) stays history.marks keeps

  keeps_with_command : (command : Command) (group : Option (List Command)) (history : History) → IsSound history → Keeps history → Keeps (with_command command group history)
  keeps_with_command command None history sound keeps = keeps_with_step (command ∷ []) history sound keeps
  keeps_with_command command (Some commands) history sound keeps = keeps

  -- ---- requests

  keeps_edited_to : (command : Command) (history : History) (made : Result Document Refusal) → IsSound history → Keeps history → IfOk (edited_to command history made) Keeps
  keeps_edited_to command history (Ok made) sound keeps = keeps_with_command command history.group history sound keeps
  keeps_edited_to command history (Err refusal) sound keeps = tt

  keeps_unless_open : (group : Option (List Command)) (answer : Result History HistoryError) → IfOk answer Keeps → IfOk (unless_open group answer) Keeps
  keeps_unless_open None answer keeps = keeps
  keeps_unless_open (Some commands) answer keeps = tt

  keeps_if : (test : Bool) (after : History) (error : HistoryError) → Keeps after → IfOk (if test then Ok after else Err error) Keeps
  keeps_if true after error keeps = keeps
  keeps_if false after error keeps = tt

  keeps_if_not : (test : Bool) (after : History) (error : HistoryError) → Keeps after → IfOk (if test then Err error else Ok after) Keeps
  keeps_if_not true after error keeps = tt
  keeps_if_not false after error keeps = keeps

  keeps_marked : (other : List ℕ) (history : History) → ¬ (other ≡ name) → Keeps history → IfOk (marked other history) Keeps
  keeps_marked other history apart keeps =
      let room : Bool = is_some (point_of other history.marks) || nat_lt (length history.marks) MAX_MARKS in
      let after = with_marks (bound other history.present history.marks) history in
      let kept : Keeps after = all_bound (MarksDocument name document history) other history.present history.marks (λ e. absurd (apart e)) keeps in
      keeps_unless_open history.group (if room then Ok after else Err TooManyMarks) (keeps_if room after TooManyMarks kept)

  keeps_unmarked : (other : List ℕ) (history : History) → Keeps history → IfOk (unmarked other history) Keeps
  keeps_unmarked other history keeps =
      let there : Bool = is_some (point_of other history.marks) in
      let after = with_marks (unbound other history.marks) history in
      let kept : Keeps after = all_filtered (MarksDocument name document history) (λ mark. not (has_name other mark)) history.marks keeps in
      keeps_unless_open history.group (if there then Ok after else Err NoMark) (keeps_if there after NoMark kept)

  keeps_gone_to : (found : Option ℕ) (history : History) → Keeps history → IfOk (gone_to found history) Keeps
  keeps_gone_to None history keeps = tt
  keeps_gone_to (Some point) history keeps = keeps

  keeps_ended : (group : Option (List Command)) (history : History) → IsSound history → Keeps history → IfOk (ended group history) Keeps
  keeps_ended None history sound keeps = tt
  keeps_ended (Some []) history sound keeps = keeps
  keeps_ended (Some (command ∷ commands)) history sound keeps = keeps_with_step (command ∷ commands) history sound keeps

  keeps_asked : (request : HistoryRequest) (history : History) → IsSound history → SetsOther name request → Keeps history → Keeps (asked request history)
  keeps_asked (Edit command) history sound other keeps = or_before_has Keeps history (edited command history) keeps (keeps_edited_to command history (applied command (standing_document history)) sound keeps)
  keeps_asked Undo history sound other keeps =
      let after = at_point (history.present - 1) history in
      let at_floor : Bool = history.present == history.floor in
      or_before_has Keeps history (undone history) keeps (keeps_unless_open history.group (if at_floor then Err NothingToUndo else Ok after) (keeps_if_not at_floor after NothingToUndo keeps))
  keeps_asked Redo history sound other keeps =
      let after = at_point (history.present + 1) history in
      let at_end : Bool = history.present == length history.steps in
      or_before_has Keeps history (redone history) keeps (keeps_unless_open history.group (if at_end then Err NothingToRedo else Ok after) (keeps_if_not at_end after NothingToRedo keeps))
  keeps_asked (SetMark named) history sound other keeps = or_before_has Keeps history (marked named history) keeps (keeps_marked named history other keeps)
  keeps_asked (TakeMark named) history sound other keeps = or_before_has Keeps history (unmarked named history) keeps (keeps_unmarked named history keeps)
  keeps_asked (GoBack named) history sound other keeps = or_before_has Keeps history (gone_back named history) keeps (keeps_unless_open history.group (gone_to (point_of named history.marks) history) (keeps_gone_to (point_of named history.marks) history keeps))
  keeps_asked Begin history sound other keeps = or_before_has Keeps history (opened history) keeps (keeps_unless_open history.group (Ok (with_group (Some []) history)) keeps)
  keeps_asked End history sound other keeps = or_before_has Keeps history (closed history) keeps (keeps_ended history.group history sound keeps)
  keeps_asked Cancel history sound other keeps = or_before_has Keeps history (cancelled history) keeps (keeps_if (is_some history.group) (with_group None history) NoGroup keeps)

  keeps_asked_all : StaysSound → (requests : List HistoryRequest) (history : History) → IsSound history → AllByRecursion (SetsOther name) requests → Keeps history → Keeps (asked_all requests history)
  keeps_asked_all stays [] history sound others keeps = keeps
  keeps_asked_all stays (request ∷ requests) history sound others keeps =
      keeps_asked_all stays requests (asked request history) (stays.1 request history sound) others.1 (keeps_asked request history sound others.0 keeps)

-- ---- set, and gone back to

answered_if : (test : Bool) (after answered : History) (error : HistoryError) → (if test then Ok after else Err error) ≡ Ok answered → after ≡ answered
answered_if true after answered error e = cc
answered_if false after answered error e = absurd cc

set_so : (name : List ℕ) (history set : History) → marked name history ≡ Ok set → (history.group ≡ None) × (with_marks (bound name history.present history.marks) history ≡ set)
set_so name history set e =
    let room : Bool = is_some (point_of name history.marks) || nat_lt (length history.marks) MAX_MARKS in
    let after = with_marks (bound name history.present history.marks) history in
    let closed = none_open history.group (if room then Ok after else Err TooManyMarks) set e in
    (closed.0, answered_if room after set TooManyMarks closed.1)

gone_so : (found : Option ℕ) (history back : History) → gone_to found history ≡ Ok back → (point : ℕ) × (found ≡ Some point) × (at_point point history ≡ back)
gone_so None history back e = absurd cc
gone_so (Some point) history back e = (point, refl, cc)

pub standing_at : (point : ℕ) (history : History) → history.group ≡ None → standing_document (at_point point history) ≡ document_at point history
standing_at point history alone = ap (λ group. after_all (commands_in group) (document_at point history)) alone

back_to_kept : (name : List ℕ) (document : Document) (history back : History) → KeepsMark name document history → gone_back name history ≡ Ok back → standing_document back ≡ document
back_to_kept name document history back keeps e =
    let closed = none_open history.group (gone_to (point_of name history.marks) history) back e in
    let gone = gone_so (point_of name history.marks) history back closed.1 in
    rw (← gone.2) (standing_at gone.0 history closed.0 ∙ named_point (λ point. document_at point history ≡ document) name history.marks keeps gone.0 gone.1)

pub back_to_mark : StaysSound → BackToTheMark
back_to_mark stays name requests history set back sound set_e others back_e =
    let document = standing_document history in
    let is_set = set_so name history set set_e in
    let here : document_at history.present history ≡ document = sym (standing_at history.present history is_set.0) in
    let first : KeepsMark name document set = rw (← is_set.1) (only_bound (λ mark. document_at mark.point history ≡ document) name history.present history.marks here) in
    let asked_so : asked (SetMark name) history ≡ set = ap (or_before history) set_e in
    let set_sound : IsSound set = subst IsSound asked_so (stays.1 (SetMark name) history sound) in
    back_to_kept name document (asked_all requests set) back (keeps_asked_all name document stays requests set set_sound others first) back_e

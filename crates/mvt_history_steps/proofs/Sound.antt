-- In each history that requests make, the numbers and marks relate as they should.
use Rattle.std.proofs.Common.{◌≡◌, ℕ, ◌+◌, ◌-◌, ◌<◌, ◌≤◌, Bool, true, ◌&&◌, is_some, nat_le, nat_lt, not, ◌||◌, Option, Some, None, Result, Ok, Err, List, [], ◌∷◌, ◌++◌, length, take, refl, ap, ◌∙◌, inl, inr, arith, length-append, length-take-le, ◌==◌, IfOk, if◌then◌else◌}
use Rattle.std.specs.List.{AllByRecursion}
use Rattle.std.proofs.lemmas.Bool.{cases_Bool}
use Rattle.std.proofs.lemmas.Bool.Decides.{nat_tests}
use Rattle.mvt_document.specs.Plain.{Document}
use Rattle.mvt_meaning.specs.Command.{Command}
use Rattle.mvt_meaning.specs.Meaning.{applied}
use Rattle.mvt_meaning.specs.declared.refusal.Refusal.{Refusal}
use Rattle.mvt_history_steps.specs.Marks.{Mark, InOrder, bound, unbound, has_name, point_of}
use Rattle.mvt_history_steps.specs.History.{History, IsSound, IsWithin, begun, standing_document, at_point, with_marks, with_group, with_step, with_command, edited_to, edited, unless_open, undone, redone, marked, unmarked, gone_to, gone_back, opened, ended, closed, cancelled}
use Rattle.mvt_meaning.specs.Requests.{HistoryRequest, Edit, Undo, Redo, SetMark, TakeMark, GoBack, Begin, End, Cancel}
use Rattle.mvt_history_steps.specs.Requests.{or_before, asked}
use Rattle.mvt_history_steps.specs.declared.TheConstants.{MAX_MARKS}
use Rattle.mvt_history_steps.specs.declared.error.HistoryError.{HistoryError}
use Rattle.mvt_history_steps.specs.declared.error.HistoryError.TheVariants.{NothingToUndo, NothingToRedo, NoMark, TooManyMarks}
use Rattle.mvt_meaning.proofs.Elements.{all_filtered}
use Rattle.mvt_history_steps.proofs.MarkOrder.{all_passed, all_bound, order_filtered, order_bound, order_unbound, length_filtered, few_bound, point_holds}

pub begins_sound : (start : Document) (depth : ℕ) → 1 ≤ depth → IsSound (begun start depth)
unfolding Rattle.std.specs.List.Sorted.IsStrictlySortedBy
begins_sound start depth some =
    record { some_depth = some; above_floor = omega arith; within_steps = omega arith; within_depth = omega arith; in_order = tt; few_marks = omega arith; in_reach = tt }

-- ---- at another point, with other marks, or another open step

pub sound_at_point : (point : ℕ) (history : History) → IsSound history → history.floor ≤ point → point ≤ length history.steps → IsSound (at_point point history)
sound_at_point point history sound low high =
    record { some_depth = sound.some_depth; above_floor = low; within_steps = high; within_depth = sound.within_depth; in_order = sound.in_order; few_marks = sound.few_marks; in_reach = sound.in_reach }

pub sound_with_group : (group : Option (List Command)) (history : History) → IsSound history → IsSound (with_group group history)
sound_with_group group history sound =
    record { some_depth = sound.some_depth; above_floor = sound.above_floor; within_steps = sound.within_steps; within_depth = sound.within_depth; in_order = sound.in_order; few_marks = sound.few_marks; in_reach = sound.in_reach }

pub sound_with_marks : (marks : List Mark) (history : History) → IsSound history → InOrder marks → length marks ≤ MAX_MARKS → AllByRecursion (IsWithin history.floor (length history.steps)) marks → IsSound (with_marks marks history)
sound_with_marks marks history sound order few reach =
    record { some_depth = sound.some_depth; above_floor = sound.above_floor; within_steps = sound.within_steps; within_depth = sound.within_depth; in_order = order; few_marks = few; in_reach = reach }

pub sound_bound : (name : List ℕ) (history : History) → IsSound history → (is_some (point_of name history.marks) || nat_lt (length history.marks) MAX_MARKS) ≡ true → IsSound (with_marks (bound name history.present history.marks) history)
sound_bound name history sound room =
    let marks = history.marks in
    let order = order_bound name history.present marks sound.in_order in
    let few = few_bound name history.present marks room sound.few_marks in
    let reach = all_bound (IsWithin history.floor (length history.steps)) name history.present marks (sound.above_floor, sound.within_steps) sound.in_reach in
    sound_with_marks (bound name history.present marks) history sound order few reach

pub sound_unbound : (name : List ℕ) (history : History) → IsSound history → IsSound (with_marks (unbound name history.marks) history)
sound_unbound name history sound =
    let marks = history.marks in
    let kept : Mark → Bool = λ mark. not (has_name name mark) in
    let before = sound.few_marks in
    let few : length (unbound name marks) ≤ MAX_MARKS = omega (arith, before, length_filtered kept marks) in
    let reach = all_filtered (IsWithin history.floor (length history.steps)) kept marks sound.in_reach in
    sound_with_marks (unbound name marks) history sound (order_unbound name marks sound.in_order) few reach

-- undo or redo reaches a marked point
pub marked_point_within : (name : List ℕ) (point : ℕ) (history : History) → IsSound history → point_of name history.marks ≡ Some point → (history.floor ≤ point) × (point ≤ length history.steps)
marked_point_within name point history sound e = point_holds (λ point. (history.floor ≤ point) × (point ≤ length history.steps)) name history.marks sound.in_reach point e

-- ---- with a further step

pub length-with_step : (step : List Command) (history : History) → history.present ≤ length history.steps → length (with_step step history).steps ≡ history.present + 1
length-with_step step history within =
    length-append (take history.present history.steps) (step ∷ []) ∙ ap (λ n. n + 1) (length-take-le history.present history.steps within)

within_from_test : (low high : ℕ) (mark : Mark) → (nat_le low mark.point && nat_le mark.point high) ≡ true → (low ≤ mark.point) × (mark.point ≤ high)
within_from_test low high mark e =
    elim (cases_Bool (nat_le low mark.point)) [
      | inl above ↦ (let below : nat_le mark.point high ≡ true = rw above at e in (grind (arith, nat_tests, above), grind (arith, nat_tests, below)))
      | inr not_above ↦ absurd (let no = rw not_above at e in cc)
    ]

pub sound_with_step : (step : List Command) (history : History) → IsSound history → IsSound (with_step step history)
sound_with_step step history sound =
    let after = with_step step history in
    let all = length-with_step step history sound.within_steps in
    let some = sound.some_depth in
    let above = sound.above_floor in
    let few = sound.few_marks in
    let kept : Mark → Bool = λ mark. nat_le after.floor mark.point && nat_le mark.point history.present in
    record {
      some_depth = some;
      above_floor = omega arith;
      within_steps = omega arith;
      within_depth = omega arith;
      in_order = order_filtered kept history.marks sound.in_order;
      few_marks = omega (arith, few, length_filtered kept history.marks);
      in_reach = all_passed (IsWithin after.floor (length after.steps)) kept (λ mark e. let within = within_from_test after.floor history.present mark e in (within.0, omega (arith, all, within.1))) history.marks;
    }

pub sound_with_command : (command : Command) (group : Option (List Command)) (history : History) → IsSound history → IsSound (with_command command group history)
sound_with_command command None history sound = sound_with_step (command ∷ []) history sound
sound_with_command command (Some commands) history sound = sound_with_group (Some (commands ++ command ∷ [])) history sound

-- ---- requests

pub sound_edited_to : (command : Command) (history : History) (made : Result Document Refusal) → IsSound history → IfOk (edited_to command history made) IsSound
sound_edited_to command history (Ok document) sound = sound_with_command command history.group history sound
sound_edited_to command history (Err refusal) sound = tt

sound_unless_open : (group : Option (List Command)) (answer : Result History HistoryError) → IfOk answer IsSound → IfOk (unless_open group answer) IsSound
sound_unless_open None answer sound = sound
sound_unless_open (Some commands) answer sound = tt

pub sound_undone : (history : History) → IsSound history → IfOk (undone history) IsSound
sound_undone history sound =
    let answer : Result History HistoryError = if history.present == history.floor then Err NothingToUndo else Ok (at_point (history.present - 1) history) in
    let above = sound.above_floor in
    let within = sound.within_steps in
    let is_sound : IfOk answer IsSound = elim (cases_Bool (history.present == history.floor)) [
      | inl at_floor ↦ rw at_floor tt
      | inr not_at ↦ rw not_at (let more : history.floor < history.present = grind (arith, nat_tests) in sound_at_point (history.present - 1) history sound (omega arith) (omega arith))
    ] in
    sound_unless_open history.group answer is_sound

pub sound_redone : (history : History) → IsSound history → IfOk (redone history) IsSound
sound_redone history sound =
    let answer : Result History HistoryError = if history.present == length history.steps then Err NothingToRedo else Ok (at_point (history.present + 1) history) in
    let above = sound.above_floor in
    let within = sound.within_steps in
    let is_sound : IfOk answer IsSound = elim (cases_Bool (history.present == length history.steps)) [
      | inl at_end ↦ rw at_end tt
      | inr not_at ↦ rw not_at (let less : history.present < length history.steps = grind (arith, nat_tests) in sound_at_point (history.present + 1) history sound (omega arith) (omega arith))
    ] in
    sound_unless_open history.group answer is_sound

pub sound_marked : (name : List ℕ) (history : History) → IsSound history → IfOk (marked name history) IsSound
sound_marked name history sound =
    let room : Bool = is_some (point_of name history.marks) || nat_lt (length history.marks) MAX_MARKS in
    let after = with_marks (bound name history.present history.marks) history in
    let answer : Result History HistoryError = if room then Ok after else Err TooManyMarks in
    let is_sound : IfOk answer IsSound = elim (cases_Bool room) [ inl there ↦ rw there (sound_bound name history sound there) | inr none ↦ rw none tt ] in
    sound_unless_open history.group answer is_sound

pub sound_unmarked : (name : List ℕ) (history : History) → IsSound history → IfOk (unmarked name history) IsSound
sound_unmarked name history sound =
    let answer : Result History HistoryError = if is_some (point_of name history.marks) then Ok (with_marks (unbound name history.marks) history) else Err NoMark in
    let is_sound : IfOk answer IsSound = elim (cases_Bool (is_some (point_of name history.marks))) [ inl there ↦ rw there (sound_unbound name history sound) | inr none ↦ rw none tt ] in
    sound_unless_open history.group answer is_sound

sound_gone_to : (found : Option ℕ) (history : History) → IsSound history → ((point : ℕ) → found ≡ Some point → (history.floor ≤ point) × (point ≤ length history.steps)) → IfOk (gone_to found history) IsSound
sound_gone_to None history sound within = tt
sound_gone_to (Some point) history sound within = let there = within point refl in sound_at_point point history sound there.0 there.1

pub sound_gone_back : (name : List ℕ) (history : History) → IsSound history → IfOk (gone_back name history) IsSound
sound_gone_back name history sound =
    sound_unless_open history.group (gone_to (point_of name history.marks) history) (sound_gone_to (point_of name history.marks) history sound (λ point e. marked_point_within name point history sound e))

pub sound_opened : (history : History) → IsSound history → IfOk (opened history) IsSound
sound_opened history sound = sound_unless_open history.group (Ok (with_group (Some []) history)) (sound_with_group (Some []) history sound)

pub sound_ended : (group : Option (List Command)) (history : History) → IsSound history → IfOk (ended group history) IsSound
sound_ended None history sound = tt
sound_ended (Some []) history sound = sound_with_group None history sound
sound_ended (Some (command ∷ commands)) history sound = sound_with_step (command ∷ commands) history sound

pub sound_cancelled : (history : History) → IsSound history → IfOk (cancelled history) IsSound
sound_cancelled history sound =
    elim (cases_Bool (is_some history.group)) [ inl there ↦ rw there (sound_with_group None history sound) | inr none ↦ rw none tt ]

-- what holds for the history that is answered, and for the one before, holds after the request
pub or_before_has : {E : Type 0} (P : History → Type 0) (before : History) (answer : Result History E) → P before → IfOk answer P → P (or_before before answer)
or_before_has P before (Ok after) holds answered = answered
or_before_has P before (Err error) holds answered = holds

pub sound_asked : (request : HistoryRequest) (history : History) → IsSound history → IsSound (asked request history)
sound_asked (Edit command) history sound = or_before_has IsSound history (edited command history) sound (sound_edited_to command history (applied command (standing_document history)) sound)
sound_asked Undo history sound = or_before_has IsSound history (undone history) sound (sound_undone history sound)
sound_asked Redo history sound = or_before_has IsSound history (redone history) sound (sound_redone history sound)
sound_asked (SetMark name) history sound = or_before_has IsSound history (marked name history) sound (sound_marked name history sound)
sound_asked (TakeMark name) history sound = or_before_has IsSound history (unmarked name history) sound (sound_unmarked name history sound)
sound_asked (GoBack name) history sound = or_before_has IsSound history (gone_back name history) sound (sound_gone_back name history sound)
sound_asked Begin history sound = or_before_has IsSound history (opened history) sound (sound_opened history sound)
sound_asked End history sound = or_before_has IsSound history (closed history) sound (sound_ended history.group history sound)
sound_asked Cancel history sound = or_before_has IsSound history (cancelled history) sound (sound_cancelled history sound)

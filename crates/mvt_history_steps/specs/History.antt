-- Which steps of commands stand, and the document that they make of the tile at the start. No change and no inverse
-- appears here. The point is how many steps stand; the floor is the lowest point to which undo goes back.
use Rattle.std.specs.Prelude.{ℕ, ◌+◌, ◌-◌, ◌≤◌, max, List, [], ◌∷◌, ◌++◌, length, take, Option, Some, None, Result, Ok, Err, ◌==◌, ◌||◌, nat_lt, is_some, if◌then◌else◌}
use Rattle.std.specs.List.{AllByRecursion}
use Rattle.mvt_document.specs.Plain.{Document}
use Rattle.mvt_meaning.specs.Command.{Command}
use Rattle.mvt_meaning.specs.Meaning.{after, applied}
use Rattle.mvt_meaning.specs.declared.refusal.Refusal.{Refusal}
use Rattle.mvt_history_steps.specs.Marks.{Mark, InOrder, point_of, bound, unbound, between}
use Rattle.mvt_history_steps.specs.declared.TheConstants.{MAX_MARKS}
use Rattle.mvt_history_steps.specs.declared.error.HistoryError.{HistoryError}
use Rattle.mvt_history_steps.specs.declared.error.HistoryError.TheVariants.{NothingToUndo, NothingToRedo, NoMark, TooManyMarks, GroupOpen, NoGroup}

-- the tile at the start; the steps, each of one or more commands, including those that were undone; how many of them
-- stand; the floor; how many steps undo goes back at most; the marks; and the commands of the open step, where one is
-- open
pub record History : Type 0 where
  pub start : Document
  pub steps : List (List Command)
  pub present : ℕ
  pub floor : ℕ
  pub depth : ℕ
  pub marks : List Mark
  pub group : Option (List Command)

-- the history of a tile at the start, with this depth of undo
abbrev pub begun : Document → ℕ → History
begun start depth = record { start = start; steps = []; present = 0; floor = 0; depth = depth; marks = []; group = None }

-- ---- documents

-- the document after commands, one after the other; a refused command changes nothing
abbrev pub after_all : List Command → Document → Document
after_all [] document = document
after_all (command ∷ commands) document = after_all commands (after command document)

-- the document after the commands of steps, one step after the other
abbrev pub after_steps : List (List Command) → Document → Document
after_steps [] document = document
after_steps (step ∷ steps) document = after_steps steps (after_all step document)

-- the document after the first `point` steps
abbrev pub document_at : ℕ → History → Document
document_at point history = after_steps (take point history.steps) history.start

-- the document after the steps that stand
abbrev pub present_document : History → Document
present_document history = document_at history.present history

-- the commands of the open step; none where no step is open
abbrev pub commands_in : Option (List Command) → List Command
commands_in None = []
commands_in (Some commands) = commands

-- the document as it stands: after the steps that stand, and then the commands of the open step
abbrev pub standing_document : History → Document
standing_document history = after_all (commands_in history.group) (present_document history)

-- ---- how its numbers and marks relate

-- the mark is of a point from `low` to `high`
abbrev pub IsWithin : ℕ → ℕ → Mark → Type 0
IsWithin low high mark = (low ≤ mark.point) × (mark.point ≤ high)

-- the depth is at least 1; the floor is not above the present point, nor the present point above the end; from the
-- floor to the end there are no more steps than the depth; the marks are in order, at most 256, and of points from the
-- floor to the end
pub record IsSound (history : History) : Type 0 where
  pub some_depth : 1 ≤ history.depth
  pub above_floor : history.floor ≤ history.present
  pub within_steps : history.present ≤ length history.steps
  pub within_depth : length history.steps ≤ history.floor + history.depth
  pub in_order : InOrder history.marks
  pub few_marks : length history.marks ≤ MAX_MARKS
  pub in_reach : AllByRecursion (IsWithin history.floor (length history.steps)) history.marks

-- ---- what a request makes of it

-- the history with another present point
abbrev pub at_point : ℕ → History → History
at_point point history = record history { present = point }

-- the history with other marks
abbrev pub with_marks : List Mark → History → History
with_marks marks history = record history { marks = marks }

-- the history with another open step, or none
abbrev pub with_group : Option (List Command) → History → History
with_group group history = record history { group = group }

-- the history with one more step, which stands: steps that were undone are forgotten, undo goes back no further than
-- the depth, marks of points that are gone go too, and no step is open
abbrev pub with_step : List Command → History → History
with_step step history =
    let floor = max history.floor (history.present + 1 - history.depth) in
    record history {
      steps = take history.present history.steps ++ step ∷ [];
      present = history.present + 1;
      floor = floor;
      marks = between floor history.present history.marks;
      group = None;
    }

-- the history with one more command: a step of its own, or the last command of the open step
abbrev pub with_command : Command → Option (List Command) → History → History
with_command command None history = with_step (command ∷ []) history
with_command command (Some commands) history = with_group (Some (commands ++ command ∷ [])) history

-- the history after a command that made this document, or its refusal
abbrev pub edited_to : Command → History → Result Document Refusal → Result History Refusal
edited_to command history (Ok document) = Ok (with_command command history.group history)
edited_to command history (Err refusal) = Err refusal

-- the history after a command, applied to the standing document, or its refusal
abbrev pub edited : Command → History → Result History Refusal
edited command history = edited_to command history (applied command (standing_document history))

-- the answer; while a step is open, the refusal that a step is open
abbrev pub unless_open : Option (List Command) → Result History HistoryError → Result History HistoryError
unless_open None answer = answer
unless_open (Some commands) answer = Err GroupOpen

-- the history with the last step that stands taken back; refused at the floor, and while a step is open
abbrev pub undone : History → Result History HistoryError
undone history = unless_open history.group (if history.present == history.floor then Err NothingToUndo else Ok (at_point (history.present - 1) history))

-- the history with the first of the steps that were undone standing again; refused at the end, and while a step is open
abbrev pub redone : History → Result History HistoryError
redone history = unless_open history.group (if history.present == length history.steps then Err NothingToRedo else Ok (at_point (history.present + 1) history))

-- the history where the name marks the present point; a new name is refused where there are 256, and any name while a
-- step is open
abbrev pub marked : List ℕ → History → Result History HistoryError
marked name history = unless_open history.group (if is_some (point_of name history.marks) || nat_lt (length history.marks) MAX_MARKS then Ok (with_marks (bound name history.present history.marks) history) else Err TooManyMarks)

-- the history where the name marks nothing; refused where it marks no point, and while a step is open
abbrev pub unmarked : List ℕ → History → Result History HistoryError
unmarked name history = unless_open history.group (if is_some (point_of name history.marks) then Ok (with_marks (unbound name history.marks) history) else Err NoMark)

-- the history at this point; refused where there is none
abbrev pub gone_to : Option ℕ → History → Result History HistoryError
gone_to None history = Err NoMark
gone_to (Some point) history = Ok (at_point point history)

-- the history at the point that the name marks; refused where it marks none, and while a step is open
abbrev pub gone_back : List ℕ → History → Result History HistoryError
gone_back name history = unless_open history.group (gone_to (point_of name history.marks) history)

-- the history with an open step of no commands; refused while a step is open
abbrev pub opened : History → Result History HistoryError
opened history = unless_open history.group (Ok (with_group (Some []) history))

-- the history after a step of these commands; a step without commands leaves none, and where no step is open it is
-- refused
abbrev pub ended : Option (List Command) → History → Result History HistoryError
ended None history = Err NoGroup
ended (Some []) history = Ok (with_group None history)
ended (Some (command ∷ commands)) history = Ok (with_step (command ∷ commands) history)

-- the history with the open step as one step; refused where none is open
abbrev pub closed : History → Result History HistoryError
closed history = ended history.group history

-- the history without the open step and its commands; refused where none is open
abbrev pub cancelled : History → Result History HistoryError
cancelled history = if is_some history.group then Ok (with_group None history) else Err NoGroup

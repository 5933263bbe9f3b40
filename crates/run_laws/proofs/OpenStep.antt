-- A step that is opened: whatever is asked, except to close it, changes nothing but the step's commands.
use Rattle.std.proofs.Common.{◌≡◌, None, Some, Result, Ok, Err, List, [], ◌∷◌, ◌++◌, refl, sym, ap, ◌∙◌}
use Rattle.std.specs.List.{AllByRecursion}
use Rattle.mvt_document.specs.Plain.{Document}
use Rattle.mvt_meaning.specs.Command.{Command}
use Rattle.mvt_meaning.specs.Meaning.{applied}
use Rattle.mvt_meaning.specs.declared.refusal.Refusal.{Refusal}
use Rattle.mvt_history_steps.specs.History.{History, with_group, standing_document, edited_to, opened}
use Rattle.mvt_meaning.specs.Requests.{HistoryRequest, Edit, Undo, Redo, SetMark, TakeMark, GoBack, Begin, End, Cancel}
use Rattle.mvt_history_steps.specs.Requests.{LeavesOpen, or_before, asked, asked_all}
use Rattle.run_laws.proofs.UndosRedos.{none_open}

-- nothing but the open step differs
abbrev pub DiffersInStep : History → History → Type 0
DiffersInStep history other = (commands : List Command) × (other ≡ with_group (Some commands) history)

-- ---- requests while a step is open

step_of_answer : (command : Command) (commands : List Command) (history : History) (made : Result Document Refusal) → let held = with_group (Some commands) history in DiffersInStep history (or_before held (edited_to command held made))
step_of_answer command commands history (Ok document) = (commands ++ command ∷ [], refl)
step_of_answer command commands history (Err refusal) = (commands, refl)

step_after : (request : HistoryRequest) (commands : List Command) (history : History) → LeavesOpen request → DiffersInStep history (asked request (with_group (Some commands) history))
step_after (Edit command) commands history leave =
    let held = with_group (Some commands) history in
    step_of_answer command commands history (applied command (standing_document held))
step_after Undo commands history leave = (commands, refl)
step_after Redo commands history leave = (commands, refl)
step_after (SetMark name) commands history leave = (commands, refl)
step_after (TakeMark name) commands history leave = (commands, refl)
step_after (GoBack name) commands history leave = (commands, refl)
step_after Begin commands history leave = (commands, refl)
step_after End commands history leave = absurd leave
step_after Cancel commands history leave = absurd leave

step_after_all : (requests : List HistoryRequest) (commands : List Command) (history : History) → AllByRecursion LeavesOpen requests → DiffersInStep history (asked_all requests (with_group (Some commands) history))
step_after_all [] commands history leave = (commands, refl)
step_after_all (request ∷ requests) commands history leave =
    let first = step_after request commands history leave.0 in
    let rest = step_after_all requests first.0 history leave.1 in
    (rest.0, ap (asked_all requests) first.1 ∙ rest.1)

-- no step was open before, and now one is, and everything else is as before
pub within_step : (requests : List HistoryRequest) (history opening : History) → opened history ≡ Ok opening → AllByRecursion LeavesOpen requests → (history.group ≡ None) × DiffersInStep history (asked_all requests opening)
within_step requests history opening open_so leave =
    let closed = none_open history.group (Ok (with_group (Some []) history)) opening open_so in
    let same : with_group (Some []) history ≡ opening = let done = closed.1 in cc in
    let held = step_after_all requests [] history leave in
    (closed.0, (held.0, ap (asked_all requests) (sym same) ∙ held.1))

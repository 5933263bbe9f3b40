-- Laws of histories and sessions, in the words of a tile and of what is asked; and of what changes weigh.
use Rattle.std.specs.Prelude.{◌≡◌, ℕ, zero, suc, ◌+◌, ◌-◌, ◌^◌, ◌<◌, ◌≤◌, List, [], ◌∷◌, length, take, get_or, Some, None, Ok, ◌*◌}
use Rattle.std.specs.List.{AllByRecursion, sum_by}
use Rattle.mvt_document.specs.declared.TheConstants.{MAX_FILE}
use Rattle.mvt_document.specs.Plain.{Field, LayerItem, Layer, TileItem, Document}
use Rattle.mvt_document.specs.Opens.{IsField, IsLayerItem, IsTileItem, IsDocument}
use Rattle.mvt_document.specs.Wire.{bytes_of, field_bytes, layer_item_bytes, tile_item_bytes}
use Rattle.mvt_messages.specs.Views.{keys, layers, values}
use Rattle.mvt_change.specs.Changes.{Change, Step, SpliceStep, MoveStep, Fits, weight}
use Rattle.mvt_change.specs.Joining.{go_along}
use Rattle.mvt_meaning.specs.Command.{Command, IsCommand}
use Rattle.mvt_history_steps.specs.History.{History, IsSound, begun, after_all, document_at, present_document, standing_document, commands_in, edited, undone, redone, marked, gone_back, opened, closed, cancelled}
use Rattle.mvt_meaning.specs.Requests.{HistoryRequest, Edit}
use Rattle.mvt_history_steps.specs.Requests.{SetsOther, LeavesOpen, asked, asked_all, then_times}
use Rattle.mvt_history_steps.specs.Reached.{all_taken_by, all_put_by, step_allowance}
use Rattle.mvt_history_steps.specs.Standing.{Standing, changes_in, closed_document}
use Rattle.mvt_history_steps.specs.Session.{StandsFor, StopsAt, StopsWithin}

-- a history is sound when it begins, at a depth of at least 1, and stays sound under each request
abbrev pub StaysSound : Type 0
StaysSound =
    ((document : Document) (depth : ℕ) → 1 ≤ depth → IsSound (begun document depth))
    × ((request : HistoryRequest) (history : History) → IsSound history → IsSound (asked request history))

-- ---- documents

-- a valid request: the command that it asks for, where it asks for one, is valid
abbrev pub IsRequest : HistoryRequest → Type 0
IsRequest (Edit command) = IsCommand command
IsRequest request = Unit {0}

-- the commands of the history are valid: those of all its steps, and those of the open one
pub record HasCommands (history : History) : Type 0 where
  pub steps : AllByRecursion (AllByRecursion IsCommand) history.steps
  pub group : AllByRecursion IsCommand (commands_in history.group)

-- a history has valid commands when it begins, and has them after each valid request
abbrev pub StaysValid : Type 0
StaysValid =
    ((document : Document) (depth : ℕ) → HasCommands (begun document depth))
    × ((request : HistoryRequest) (history : History) → IsRequest request → HasCommands history → HasCommands (asked request history))

-- something holds of the document at each point of the history, of each document within the open step, and of the one
-- that stands
pub record HoldsThroughout (holds : Document → Type 0) (history : History) : Type 0 where
  pub points : (point : ℕ) → holds (document_at point history)
  pub within : (count : ℕ) → holds (after_all (take count (commands_in history.group)) (present_document history))
  pub standing : holds (standing_document history)

-- where the document at the start is valid, and so are the commands, all documents of the history are
abbrev pub HistoryOfDocuments : Type 0
HistoryOfDocuments = (history : History) → IsDocument history.start → HasCommands history → HoldsThroughout IsDocument history

-- a valid document that a file can hold
pub record FitsAFile (document : Document) : Type 0 where
  pub valid : IsDocument document
  pub within : length (bytes_of document) ≤ MAX_FILE

-- where the document at the start is valid and a file can hold it, and the commands are valid, the same holds of all
-- documents of the history
abbrev pub HistoryFits : Type 0
HistoryFits = (history : History) → FitsAFile history.start → HasCommands history → HoldsThroughout FitsAFile history

-- ---- undo, steps and marks

-- in a sound history where no step is open, an undo right after an accepted command is accepted, and the document is
-- the one before the command
abbrev pub UndoAtOnce : Type 0
UndoAtOnce =
    (command : Command) (history after : History) → IsSound history
    → history.group ≡ None
    → edited command history ≡ Ok after
    → (back : History) × (undone after ≡ Ok back) × (standing_document back ≡ standing_document history)

-- in a sound history, ending an open step of one or more commands is accepted, and so is an undo right after it, and
-- the document is the one before all of them
abbrev pub UndoAfterEnd : Type 0
UndoAfterEnd =
    (command : Command) (commands : List Command) (history : History) → IsSound history
    → history.group ≡ Some (command ∷ commands)
    → (after : History) × (back : History)
    × (closed history ≡ Ok after)
    × (undone after ≡ Ok back)
    × (standing_document back ≡ present_document history)

-- in a sound history a step is opened, then anything is asked except to end or cancel it, and one or more commands are
-- accepted: ending it is accepted, and so is an undo right after it, and the document is the one that stood when the
-- step was opened
abbrev pub StepUndoesWhole : Type 0
StepUndoesWhole =
    (requests : List HistoryRequest) (history opening : History) → IsSound history
    → opened history ≡ Ok opening
    → AllByRecursion LeavesOpen requests
    → ¬ ((asked_all requests opening).group ≡ Some [])
    → (after : History) × (back : History)
    × (closed (asked_all requests opening) ≡ Ok after)
    × (undone after ≡ Ok back)
    × (standing_document back ≡ standing_document history)

-- a step is opened, then anything is asked except to end or cancel it, and no command is accepted: ending it is
-- accepted, and leaves the very history from before it, with the steps that were undone and the marks
abbrev pub EmptyStepLeavesNoTrace : Type 0
EmptyStepLeavesNoTrace =
    (requests : List HistoryRequest) (history opening : History)
    → opened history ≡ Ok opening
    → AllByRecursion LeavesOpen requests
    → (asked_all requests opening).group ≡ Some []
    → closed (asked_all requests opening) ≡ Ok history

-- where a number of undos are accepted in a sound history, so are as many redos after them, and they lead to the very
-- history from before
abbrev pub RedosUndoUndos : Type 0
RedosUndoUndos =
    (count : ℕ) (history after : History) → IsSound history
    → then_times count undone history ≡ Ok after
    → then_times count redone after ≡ Ok history

-- where a number of redos are accepted in a sound history, so are as many undos after them, and they lead to the very
-- history from before
abbrev pub UndosUndoRedos : Type 0
UndosUndoRedos =
    (count : ℕ) (history after : History) → IsSound history
    → then_times count redone history ≡ Ok after
    → then_times count undone after ≡ Ok history

-- a mark is set in a sound history, then anything is asked except to set it again: where going back to it is accepted,
-- the document is the one that stood when it was set
abbrev pub BackToTheMark : Type 0
BackToTheMark =
    (name : List ℕ) (requests : List HistoryRequest) (history set back : History) → IsSound history
    → marked name history ≡ Ok set
    → AllByRecursion (SetsOther name) requests
    → gone_back name (asked_all requests set) ≡ Ok back
    → standing_document back ≡ standing_document history

-- a step is opened, then anything is asked except to end or cancel it: cancelling it is accepted, and leaves the very
-- history from before it
abbrev pub CancelLeavesNoTrace : Type 0
CancelLeavesNoTrace =
    (requests : List HistoryRequest) (history opening : History)
    → opened history ≡ Ok opening
    → AllByRecursion LeavesOpen requests
    → cancelled (asked_all requests opening) ≡ Ok history

-- a `back` or a `cancel` that was stopped on the way, asked again, is accepted and leads where it would have led
abbrev pub StoppedGoesOn : Type 0
StoppedGoesOn =
    ((name : List ℕ) (taken : ℕ) (history between : History) → StopsAt name history taken between
    → (after : History) × (gone_back name history ≡ Ok after) × (gone_back name between ≡ Ok after))
    × ((taken : ℕ) (history between : History) → StopsWithin history taken between
    → (after : History) × (cancelled history ≡ Ok after) × (cancelled between ≡ Ok after))

-- ---- what a session keeps

-- the changes that a session keeps for undo lead to each document down to the floor, those for redo to each up to the
-- end, and those of the open step to each within it, back to the one that stood when it was opened
abbrev pub ChangesLead : Type 0
ChangesLead =
    (session : Standing) (history : History) → StandsFor session history →
    let present = present_document history in
    let commands = commands_in history.group in
    let pending = changes_in session.pending in
    ((count : ℕ) → count ≤ length session.undo
    → go_along (take count session.undo) present ≡ document_at (history.present - count) history)
    × ((count : ℕ) → count ≤ length session.redo
    → go_along (take count session.redo) present ≡ document_at (history.present + count) history)
    × ((count : ℕ) → count ≤ length commands
    → go_along (take count pending) session.document ≡ after_all (take (length commands - count) commands) present)
    × (closed_document session ≡ present)

-- the sum of `number` at a number of points, from this one up
abbrev pub sum_from : (ℕ → ℕ) → ℕ → ℕ → ℕ
sum_from number point zero = 0
sum_from number point (suc count) = number point + sum_from number (suc point) count

-- how many bytes the step after this point took out
abbrev pub taken_at : History → ℕ → ℕ
taken_at history point = all_taken_by (get_or history.steps point []) (document_at point history)

-- how many bytes the step after this point put in
abbrev pub put_at : History → ℕ → ℕ
put_at history point = all_put_by (get_or history.steps point []) (document_at point history)

-- the changes that a session keeps weigh no more than the sum of what the steps from the floor to the present point
-- took out, what the steps that were undone put in, and what the commands of the open step took out
abbrev pub KeptWithin : Type 0
KeptWithin = (session : Standing) (history : History) → StandsFor session history →
    sum_by weight session.undo + sum_by weight session.redo + sum_by weight (changes_in session.pending)
    ≤ sum_from (taken_at history) history.floor (length session.undo) + sum_from (put_at history) history.present (length session.redo) + all_taken_by (commands_in history.group) (present_document history)

-- twice the number of steps that the change of the step after this point may have (`step_allowance`)
abbrev pub step_allowance_at : History → ℕ → ℕ
step_allowance_at history point = step_allowance (get_or history.steps point []) (document_at point history)

-- the changes that a session keeps have, all together, no more steps than the sum of the number of commands in the
-- steps from the floor to the end and in the open step, and half the number of bytes that these commands took out and
-- put in
abbrev pub FewSteps : Type 0
FewSteps = (session : Standing) (history : History) → StandsFor session history →
    2 * (sum_by length session.undo + sum_by length session.redo + sum_by length (changes_in session.pending))
    ≤ sum_from (step_allowance_at history) history.floor (length session.undo + length session.redo) + step_allowance (commands_in history.group) (present_document history)

-- ---- what changes weigh

-- a valid field has at least two bytes
abbrev pub FieldWeighs : Type 0
FieldWeighs = (field : Field) → IsField field → 2 ≤ length (field_bytes field)

-- a valid item of a layer has at least two bytes
abbrev pub LayerItemWeighs : Type 0
LayerItemWeighs = (item : LayerItem) → IsLayerItem item → 2 ≤ length (layer_item_bytes item)

-- a valid item of a tile has at least two bytes
abbrev pub TileItemWeighs : Type 0
TileItemWeighs = (item : TileItem) → IsTileItem item → 2 ≤ length (tile_item_bytes item)

-- the layer has fewer than 2 ^ 32 keys, and fewer than 2 ^ 32 values
pub record HasFewKeys (layer : Layer) : Type 0 where
  pub few_keys : length (keys layer) < 2 ^ 32
  pub few_values : length (values layer) < 2 ^ 32

-- each layer of a valid document that a file can hold has fewer than 2 ^ 32 keys, and fewer than 2 ^ 32 values
abbrev pub LayersHaveFewKeys : Type 0
LayersHaveFewKeys = (document : Document) → FitsAFile document → AllByRecursion HasFewKeys (layers document)

-- how many items a step puts in
abbrev pub put_count : Step → ℕ
put_count (SpliceStep place index taken put) = length put
put_count (MoveStep place from to) = 0

-- a change that fits and weighs nothing puts in no item
abbrev pub NothingPut : Type 0
NothingPut = (change : Change) (document : Document) → Fits change document → weight change ≡ 0 → AllByRecursion (λ step. put_count step ≡ 0) change

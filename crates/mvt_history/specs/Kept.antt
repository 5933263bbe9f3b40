-- What a session keeps of changes and marks after each request.
use Rattle.std.specs.Prelude.{◌≡◌, ℕ, ◌+◌, ◌-◌, List, [], ◌∷◌, map, length, drop, take, Option, Some, None, Result, Ok, Err}
use Rattle.mvt_document.specs.Plain.{Document}
use Rattle.mvt_change.specs.Changes.{Change, go, turn}
use Rattle.mvt_change.specs.Joining.{go_along, joined}
use Rattle.mvt_meaning.specs.Command.{Command}
use Rattle.mvt_edit_steps.specs.Prepared.{IsPrepared}
use Rattle.mvt_history_steps.specs.Marks.{Mark, between, counted_from}
use Rattle.mvt_history_steps.specs.Moves.{moved_along}
use Rattle.mvt_history_steps.specs.Standing.{Standing, changes_in, closed_document}
use Rattle.mvt_history_steps.specs.declared.error.HistoryError.{HistoryError}
use Rattle.mvt_history_steps.specs.declared.error.HistoryError.TheVariants.{Stopped}
use Rattle.mvt_history_steps.specs.declared.steps.Direction.{Direction}

-- ---- the session with something else in one place

-- the session with another document and other changes of an open step
abbrev pub with_open : Document → Option (List Change) → Standing → Standing
with_open document pending session = record { document = document; undo = session.undo; redo = session.redo; depth = session.depth; marks = session.marks; pending = pending }

-- the session with these marks
abbrev pub with_names : List Mark → Standing → Standing
with_names marks session = record { document = session.document; undo = session.undo; redo = session.redo; depth = session.depth; marks = marks; pending = session.pending }

-- ---- a step that is new

-- how many changes go if one more is kept
abbrev pub gone_from : Standing → ℕ
gone_from session = length session.undo + 1 - session.depth

-- the change is the next for undo, there is none for redo, and no step is open
pub record IsKept (before after : Standing) (change : Change) : Type 0 where
  pub undo : after.undo ≡ take before.depth (change ∷ before.undo)
  pub redo : after.redo ≡ []
  pub depth : after.depth ≡ before.depth
  pub marks : map (counted_from (gone_from before)) after.marks ≡ between (gone_from before) (length before.undo) before.marks
  pub pending : after.pending ≡ None

-- the change is the next for undo, where no step is open, and else the next to take back in the open step
abbrev pub KeepsNext : Option (List Change) → Change → Standing → Standing → Type 0
KeepsNext None change before after = IsKept before after change
KeepsNext (Some changes) change before after = after ≡ with_open after.document (Some (change ∷ changes)) before

-- a change that is prepared for the command was carried out, and the session keeps what leads back
pub record CarriesOut (command : Command) (before after : Standing) : Type 0 where
  pub change : Change
  pub prepared : IsPrepared command before.document change
  pub document : after.document ≡ go change before.document
  pub keeps : KeepsNext before.pending (turn change before.document) before after

-- the changes of the open step are kept as one, where there are any; the document stays, and no step is open
abbrev pub IsEnded : Option (List Change) → Standing → Standing → Type 0
IsEnded None before after = ⊥
IsEnded (Some []) before after = after ≡ with_open before.document None before
IsEnded (Some (change ∷ changes)) before after = (after.document ≡ before.document) × IsKept before after (joined (change ∷ changes))

-- ---- a way back or on

-- some changes that were kept for undo are, turned, kept for redo, or the other way round, one after the other
abbrev pub IsMoved : Standing → Standing → Type 0
IsMoved before after = (direction : Direction) × (count : ℕ) × (after ≡ moved_along direction count before)

-- the changes of the open step were carried out, all of them or as many as the error says, and are not kept; another
-- error leaves the session as it was
abbrev pub IsCancelled : Result (Unit {0}) HistoryError → Standing → Standing → Type 0
IsCancelled (Ok done) before after = after ≡ with_open (closed_document before) None before
IsCancelled (Err (Stopped taken)) before after = after ≡ with_open (go_along (take taken (changes_in before.pending)) before.document) (Some (drop taken (changes_in before.pending))) before
IsCancelled (Err error) before after = after ≡ before

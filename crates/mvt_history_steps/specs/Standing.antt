-- What contracts see of a session.
use Rattle.std.specs.Prelude.{ℕ, List, [], Option, Some, None}
use Rattle.mvt_document.specs.Plain.{Document}
use Rattle.mvt_document.specs.Opens.{IsDocument}
use Rattle.mvt_change.specs.Changes.{Change}
use Rattle.mvt_change.specs.Joining.{go_along, FitAlong}
use Rattle.mvt_history_steps.specs.Marks.{Mark}

-- the standing document; the changes kept for undo, for redo, and to take back the commands of the open step, each list
-- with the next one first; the depth of undo; and the marks, whose points are counted from the floor
pub record Standing : Type 0 where
  pub document : Document
  pub undo : List Change
  pub redo : List Change
  pub depth : ℕ
  pub marks : List Mark
  pub pending : Option (List Change)

-- the changes that take back the commands of the open step; none where no step is open
abbrev pub changes_in : Option (List Change) → List Change
changes_in None = []
changes_in (Some changes) = changes

-- the document before the commands of the open step
abbrev pub closed_document : Standing → Document
closed_document session = go_along (changes_in session.pending) session.document

-- the document is valid, and each change that is kept fits where it is carried out
pub record IsReady (session : Standing) : Type 0 where
  pub valid : IsDocument session.document
  pub pending_fit : FitAlong (changes_in session.pending) session.document
  pub undo_fit : FitAlong session.undo (closed_document session)
  pub redo_fit : FitAlong session.redo (closed_document session)

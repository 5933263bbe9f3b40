-- How a session keeps what contracts see of it.
use Rattle.std.specs.Prelude.{◌≡◌, ℕ, ◌+◌, ◌≤◌, List, map, reverse, length, Option, option_map}
use Rattle.std.specs.List.{AllByRecursion}
use Rattle.mvt_document.specs.Stands.{document_of}
use Rattle.mvt_document.specs.declared.document.Document.{Document}
use Rattle.mvt_change.specs.Changes as plain
use Rattle.mvt_change.specs.ChangeStands.{change_of}
use Rattle.mvt_change.specs.declared.change.Change.{Change}
use Rattle.mvt_history_steps.specs.Marks as marks
use Rattle.mvt_history_steps.specs.Marks.{InOrder}
use Rattle.mvt_history_steps.specs.Standing.{Standing, IsReady}
use Rattle.mvt_history_steps.specs.declared.TheConstants.{MAX_DEPTH, MAX_MARKS}
use Rattle.mvt_history_steps.specs.declared.marks.Mark.{Mark}

-- the plain mark that a mark of the program stands for
abbrev pub mark_of : Mark → marks.Mark
mark_of mark = record { name = mark.name.items; point = mark.point }

-- the plain changes of a list, the last one first
abbrev pub from_last : List Change → List plain.Change
from_last changes = map change_of (reverse changes)

-- what contracts see of the fields of a session
abbrev pub standing_of : Document → List Change → List Change → ℕ → List Mark → Option (List Change) → Standing
standing_of document undo redo depth marks pending = record {
  document = document_of document;
  undo = from_last undo;
  redo = from_last redo;
  depth = depth;
  marks = map mark_of marks;
  pending = option_map from_last pending;
}

-- the point of the mark is at most `reach`
abbrev pub IsReached : ℕ → marks.Mark → Type 0
IsReached reach mark = mark.point ≤ reach

-- what the fields of a session keep: its changes fit (`IsReady`), the depth is 1 to 10,000, both lists of changes have
-- room for that many and together hold no more, and the marks are in order, at most 256, and of points that undo or
-- redo reaches
pub record IsHeld (undo_room redo_room : ℕ) (session : Standing) : Type 0 where
  pub ready : IsReady session
  pub some_depth : 1 ≤ session.depth
  pub little_depth : session.depth ≤ MAX_DEPTH
  pub room_for_undo : undo_room ≡ session.depth
  pub room_for_redo : redo_room ≡ session.depth
  pub within_depth : length session.undo + length session.redo ≤ session.depth
  pub in_order : InOrder session.marks
  pub few_marks : length session.marks ≤ MAX_MARKS
  pub reached : AllByRecursion (IsReached (length session.undo + length session.redo)) session.marks

-- What a session checks before it refuses.
use Rattle.std.specs.Prelude.{ℕ, Bool, ◌||◌, ◌==◌, nat_lt, is_some, if◌then◌else◌, List, length, Result, Ok, Err}
use Rattle.mvt_history_steps.specs.declared.error.HistoryError.{HistoryError}
use Rattle.mvt_history_steps.specs.declared.error.HistoryError.TheVariants.{NothingToUndo, NothingToRedo}
use Rattle.mvt_history_steps.specs.Marks.{Mark, point_of}
use Rattle.mvt_history_steps.specs.Standing.{Standing}
use Rattle.mvt_history_steps.specs.declared.TheConstants.{MAX_MARKS}
use Rattle.mvt_history_steps.specs.declared.steps.Direction.{Direction}
use Rattle.mvt_history_steps.specs.declared.steps.Direction.TheVariants.{Undo, Redo}

-- there is a step ahead in the direction; or the refusal that there is none
abbrev pub ensured_ahead : Direction → Standing → Result (Unit {0}) HistoryError
ensured_ahead Undo session = if length session.undo == 0 then Err NothingToUndo else Ok tt
ensured_ahead Redo session = if length session.redo == 0 then Err NothingToRedo else Ok tt

-- whether there is room to mark the name
abbrev pub has_room : List ℕ → List Mark → Bool
has_room name marks = is_some (point_of name marks) || nat_lt (length marks) MAX_MARKS

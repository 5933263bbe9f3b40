-- What is asked of a history, as a plain value.
use Rattle.std.specs.Prelude.{ℕ, List}
use Rattle.mvt_meaning.specs.Command.{Command}

-- a request on a history: a command, an undo or redo, a mark to set, to remove or to go back to, a step to open, to end
-- or to cancel
pub data HistoryRequest : Type 0 where
  Edit : (command : Command) → HistoryRequest
  Undo : HistoryRequest
  Redo : HistoryRequest
  SetMark : (name : List ℕ) → HistoryRequest
  TakeMark : (name : List ℕ) → HistoryRequest
  GoBack : (name : List ℕ) → HistoryRequest
  Begin : HistoryRequest
  End : HistoryRequest
  Cancel : HistoryRequest

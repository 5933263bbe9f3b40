-- Requests on a history, one after the other.
use Rattle.std.specs.Prelude.{◌≡◌, ℕ, zero, suc, List, [], ◌∷◌, Result, Ok, Err}
use Rattle.mvt_meaning.specs.Requests.{HistoryRequest, Edit, Undo, Redo, SetMark, TakeMark, GoBack, Begin, End, Cancel}
use Rattle.mvt_meaning.specs.declared.refusal.Refusal.{Refusal}
use Rattle.mvt_history_steps.specs.History.{History, edited, undone, redone, marked, unmarked, gone_back, opened, closed, cancelled}
use Rattle.mvt_history_steps.specs.declared.error.HistoryError.{HistoryError}

-- what is made of the answer to a request: by `edit` where it is a command, else by `other`
abbrev pub by_answer : {A : Type 0} → (Result History Refusal → A) → (Result History HistoryError → A) → HistoryRequest → History → A
by_answer edit other (Edit command) history = edit (edited command history)
by_answer edit other Undo history = other (undone history)
by_answer edit other Redo history = other (redone history)
by_answer edit other (SetMark name) history = other (marked name history)
by_answer edit other (TakeMark name) history = other (unmarked name history)
by_answer edit other (GoBack name) history = other (gone_back name history)
by_answer edit other Begin history = other (opened history)
by_answer edit other End history = other (closed history)
by_answer edit other Cancel history = other (cancelled history)

-- the history that is answered, or the one before where the request is refused
abbrev pub or_before : {E : Type 0} → History → Result History E → History
or_before before (Ok after) = after
or_before before (Err error) = before

-- the history after a request; a refused request changes nothing
abbrev pub asked : HistoryRequest → History → History
asked request history = by_answer (or_before history) (or_before history) request history

-- the history after requests, one after the other
abbrev pub asked_all : List HistoryRequest → History → History
asked_all [] history = history
asked_all (request ∷ requests) history = asked_all requests (asked request history)

-- the request does not set the mark of this name
abbrev pub SetsOther : List ℕ → HistoryRequest → Type 0
SetsOther name (SetMark other) = ¬ (other ≡ name)
SetsOther name request = Unit {0}

-- the request neither ends nor cancels the open step
abbrev pub LeavesOpen : HistoryRequest → Type 0
LeavesOpen End = ⊥
LeavesOpen Cancel = ⊥
LeavesOpen request = Unit {0}

-- the answer to a further request, where the one before was accepted; else its refusal
abbrev pub and_then : Result History HistoryError → (History → Result History HistoryError) → Result History HistoryError
and_then (Ok after) more = more after
and_then (Err error) more = Err error

-- the history after the same request, a number of times, each of them accepted; else the first refusal
abbrev pub then_times : ℕ → (History → Result History HistoryError) → History → Result History HistoryError
then_times zero ask history = Ok history
then_times (suc count) ask history = and_then (ask history) (then_times count ask)

-- How a session answers a request.
use Rattle.std.specs.Prelude.{◌≡◌, ◌⊎◌, ℕ, ◌<◌, ◌≤◌, None, length, IsSomeAnd, Result, Ok, Err, IsOk}
use Rattle.mvt_document.specs.Held.{Held}
use Rattle.mvt_meaning.specs.Memory.{AsksForMemory}
use Rattle.mvt_meaning.specs.Requests.{Edit, SetMark, TakeMark, GoBack, Begin, End, Cancel}
use Rattle.tile_arguments.specs.Request.{Request, OnHistory, ListMarks}
use Rattle.mvt_history_steps.specs.History.{History, standing_document}
use Rattle.mvt_history_steps.specs.Marks.{point_of}
use Rattle.mvt_history_steps.specs.Session.{StandsFor, StopsAt, StopsWithin}
use Rattle.mvt_history_steps.specs.Standing.{Standing}
use Rattle.mvt_history_steps.specs.declared.error.HistoryError.TheVariants.{Stopped}
use Rattle.tile_course.specs.Replies.{refusal_number}
use Rattle.tile_course.specs.declared.refused.Refused.{Refused}
use Rattle.tile_course.specs.declared.refused.Refused.TheVariants as refused
use Rattle.tile_course.specs.Answering.{carried_out}

-- the request may be refused with 60, out of memory: not one that takes no memory (to mark the present point by a name
-- that is marked already, to remove a mark, to open a step, to end one of fewer than two commands, to list no marks), nor
-- one that is stopped instead (to go back, to cancel); a command only where it asks for memory, and any other one only
-- where it is accepted with all memory
abbrev pub NeedsMemory : Request → History → Type 0
NeedsMemory (OnHistory (Edit command)) history = AsksForMemory command (standing_document history)
NeedsMemory (OnHistory (SetMark name)) history = IsOk (carried_out (OnHistory (SetMark name)) history) × (point_of name history.marks ≡ None)
NeedsMemory (OnHistory (TakeMark name)) history = ⊥
NeedsMemory (OnHistory (GoBack name)) history = ⊥
NeedsMemory (OnHistory Begin) history = ⊥
NeedsMemory (OnHistory End) history = IsSomeAnd history.group (λ commands. 2 ≤ length commands)
NeedsMemory (OnHistory Cancel) history = ⊥
NeedsMemory ListMarks history = 0 < length history.marks
NeedsMemory request history = IsOk (carried_out request history)

-- the request is to go back or to cancel, and may be stopped with `taken` steps, or commands, taken, where the history
-- `between` stands
abbrev pub MayStop : Request → History → ℕ → History → Type 0
MayStop (OnHistory (GoBack name)) history taken between = StopsAt name history taken between
MayStop (OnHistory Cancel) history taken between = StopsWithin history taken between
MayStop request history taken between = ⊥

-- the request is refused as it is defined, or with 60 where it may be
abbrev pub IsRefused : Request → History → Refused → Type 0
IsRefused request history reason = (NeedsMemory request history × (refusal_number reason ≡ 60)) ⊎ (carried_out request history ≡ Err reason)

-- these lines are printed, and the session holds the history after the request; or the request is refused, and the
-- session holds the history before; or it was stopped, and the session holds the history at which it stopped
abbrev pub IsAnswered : Request → History → Result (Held ℕ) Refused → Standing → Type 0
IsAnswered request history (Ok lines) new = (after : History) × (carried_out request history ≡ Ok (record { lines = lines.items; history = after })) × StandsFor new after
IsAnswered request history (Err reason) new =
    (IsRefused request history reason × StandsFor new history)
    ⊎ ((taken : ℕ) × (between : History) × (reason ≡ refused.History (Stopped taken)) × MayStop request history taken between × StandsFor new between)

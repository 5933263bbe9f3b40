-- Laws of what requests print.
use Rattle.std.specs.Prelude.{◌≡◌, Ok, Err}
use Rattle.tile_arguments.specs.Request.{Request, OnHistory}
use Rattle.tile_listing.specs.Printed.{AreLinesToPrint}
use Rattle.mvt_history_steps.specs.History.{History}
use Rattle.tile_course.specs.Replies.{IsOutOfMemory}
use Rattle.tile_course.specs.declared.refused.Refused.{Refused}
use Rattle.tile_course.specs.Answering.{Answer, carried_out}

-- what a request prints is whole lines, and none of them is `ok` or looks like a refusal
abbrev pub RequestsPrintLines : Type 0
RequestsPrintLines = (request : Request) (history : History) (answer : Answer) → carried_out request history ≡ Ok answer → AreLinesToPrint answer.lines

-- no request is refused as out of memory, or stopped, by its definition
abbrev pub NoRequestIsOutOfMemory : Type 0
NoRequestIsOutOfMemory = (request : Request) (history : History) (reason : Refused) → carried_out request history ≡ Err reason → ¬ (IsOutOfMemory reason)

-- the request asks for the marks, the history, the size or a listing
abbrev pub Looks : Request → Type 0
Looks (OnHistory request) = ⊥
Looks request = Unit {0}

-- a look that is accepted leaves the history as it was, and so the tile and what undo takes back
abbrev pub LooksLeaveHistory : Type 0
LooksLeaveHistory = (request : Request) (history : History) (answer : Answer) → Looks request → carried_out request history ≡ Ok answer → answer.history ≡ history

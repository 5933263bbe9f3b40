-- Laws over whole runs, in the words of scripts, replies and tiles.
use Rattle.std.specs.Prelude.{◌≡◌, ℕ, ◌+◌, ◌≤◌, Bool, true, false, List, [], ◌∷◌, ◌++◌, take, Option, Some, None, Result, Ok, Err}
use Rattle.std.specs.List.{AllByRecursion, flat_map}
use Rattle.mvt_document.specs.Plain.{Document}
use Rattle.mvt_meaning.specs.Command.{Command}
use Rattle.mvt_meaning.specs.Requests.{HistoryRequest, Edit, Undo, SetMark, GoBack, Begin, End, Cancel}
use Rattle.tile_arguments.specs.Request.{Request, OnHistory}
use Rattle.mvt_meaning.specs.Meaning.{applied}
use Rattle.tile_script.specs.Line.{answer_to}
use Rattle.tile_lines.specs.Lines.{HasNoLineFeed, with_feed, EndsWithALine}
use Rattle.mvt_history_steps.specs.History.{History, IsSound, commands_in, standing_document, marked, gone_back}
use Rattle.mvt_history_steps.specs.Requests.{SetsOther, LeavesOpen, asked_all}
use Rattle.run_laws.specs.HistoryLaws.{FitsAFile, HoldsThroughout, IsRequest}
use Rattle.tile_lines.specs.declared.parse_error.ParseError.{ParseError}
use Rattle.tile_course.specs.AnswerLaws.{Looks}
use Rattle.tile_course.specs.Replies.{accepted_reply, refused_reply, NoneIsOutOfMemory}
use Rattle.tile_course.specs.Run.{Progress, at_first, after_line, after_lines, is_over, ran, tile_of, Walk}
use Rattle.tile_course.specs.declared.outcome.Options.{Options}
use Rattle.tile_course.specs.declared.refused.Refused.{Refused}

-- ---- prefixes

-- what was replied to such a prefix is a prefix of what is replied to the whole script
abbrev pub RepliesStand : Type 0
RepliesStand =
    (document : Document) (options : Options) (prefix rest : List ℕ) → EndsWithALine prefix
    → (more : List ℕ)
    × ((ran document options (prefix ++ rest)).replies ≡ (ran document options prefix).replies ++ more)

-- ---- lines that change nothing

-- a line that is refused leaves the tile and the history as they were; that one was refused is noted
abbrev pub RefusedLinesChangeNothing : Type 0
RefusedLinesChangeNothing =
    (p : Progress) (line : List ℕ) (reason : Refused)
    → (after_line p line).replies ≡ p.replies ++ refused_reply (p.lines + 1) reason
    → ((after_line p line).history ≡ p.history)
    × (tile_of (after_line p line) ≡ tile_of p)
    × ((after_line p line).any_refused ≡ true)

-- a line without a reply is counted, and changes nothing else
abbrev pub SilentLinesChangeNothing : Type 0
SilentLinesChangeNothing = (p : Progress) (line : List ℕ) → (after_line p line).replies ≡ p.replies → after_line p line ≡ record p { lines = p.lines + 1 }

-- a line that asks for the marks, the history, the size or a listing, even one that is refused, is counted, and leaves
-- the tile and the history as they were
abbrev pub LookingChangesNothing : Type 0
LookingChangesNothing =
    (p : Progress) (line : List ℕ) (request : Request) → answer_to line ≡ Ok (Some request) → Looks request
    → ((after_line p line).history ≡ p.history)
    × (tile_of (after_line p line) ≡ tile_of p)
    × ((after_line p line).lines ≡ p.lines + 1)

-- once a strict run is over, no further line changes anything
abbrev pub StrictRunsStop : Type 0
StrictRunsStop = (p : Progress) (lines more : List (List ℕ)) → is_over true (after_lines true p lines) ≡ true → after_lines true p (lines ++ more) ≡ after_lines true p lines

-- where a run that is not strict refuses no line, a strict one comes to the same result
abbrev pub AcceptedRunsAreAlike : Type 0
AcceptedRunsAreAlike = (p : Progress) (lines : List (List ℕ)) → (after_lines false p lines).any_refused ≡ false → after_lines true p lines ≡ after_lines false p lines

-- ---- what stands

-- the commands, one after the other and each accepted, make the second document of the first
abbrev pub Makes : Document → List Command → Document → Type 0
Makes document [] made = made ≡ document
Makes document (command ∷ commands) made = (next : Document) × (applied command document ≡ Ok next) × Makes next commands made

-- the commands of the steps that stand, and then those of the open step
abbrev pub standing_commands : History → List Command
standing_commands history = flat_map (λ step. step) (take history.present history.steps) ++ commands_in history.group

-- a sound history of this tile at this depth, whose standing commands, each accepted, make the standing document
pub record IsHistoryOf (document : Document) (depth : ℕ) (history : History) : Type 0 where
  pub start : history.start ≡ document
  pub keeps_depth : history.depth ≡ depth
  pub sound : IsSound history
  pub makes : Makes document (standing_commands history) (standing_document history)

-- after every script, at a depth of at least 1, the standing commands, each accepted in order, make the standing
-- document of the tile at the start, and the history is sound
abbrev pub StandingCommands : Type 0
StandingCommands = (document : Document) (options : Options) (script : List ℕ) → 1 ≤ options.depth → IsHistoryOf document options.depth (ran document options script).history

-- ---- what lines ask of a history

-- what a request asks of a history; a look asks nothing of it
abbrev pub asked_of : Request → List HistoryRequest
asked_of (OnHistory request) = request ∷ []
asked_of request = []

-- what a line asks of a history; a line that asks for nothing, or is refused as it is read, asks nothing of it
abbrev pub asked_in : Result (Option Request) ParseError → List HistoryRequest
asked_in (Ok None) = []
asked_in (Ok (Some request)) = asked_of request
asked_in (Err error) = []

-- what the lines ask of a history, one after the other
abbrev pub requests_of : List (List ℕ) → List HistoryRequest
requests_of lines = flat_map (λ line. asked_in (answer_to line)) lines

-- in a run that is not strict, the history after some lines is what their requests make of the history before them, so
-- each law of histories holds of such a run
abbrev pub LinesAreRequests : Type 0
LinesAreRequests = (p : Progress) (lines : List (List ℕ)) → (after_lines false p lines).history ≡ asked_all (requests_of lines) p.history

-- each line that asks for a request on the history asks for a valid one
abbrev pub RequestsAreValid : Type 0
RequestsAreValid = (line : List ℕ) (request : HistoryRequest) → answer_to line ≡ Ok (Some (OnHistory request)) → IsRequest request

-- ---- tiles that fit a file

-- wherever a run on a valid document that a file can hold may get to by some lines, even if growths are refused: all
-- documents of the history are valid, and a file can hold them
abbrev pub TilesFitOnTheWay : Type 0
TilesFitOnTheWay =
    (document : Document) (depth : ℕ) (strict : Bool) (lines : List (List ℕ)) (q : Progress) → FitsAFile document
    → Walk strict (at_first document depth) lines q → HoldsThroughout FitsAFile q.history

-- the same after every script, with all memory
abbrev pub TilesFit : Type 0
TilesFit = (document : Document) (options : Options) (script : List ℕ) → FitsAFile document → HoldsThroughout FitsAFile (ran document options script).history

-- ---- undo

-- where the history is sound, no step is open and the run is not over, a line with an accepted command and a line with
-- an undo after it are both accepted, and the tile is as before
abbrev pub UndoInARun : Type 0
UndoInARun =
    (strict : Bool) (p : Progress) (line undo : List ℕ) (command : Command) (edited : Document) → IsSound p.history
    → p.history.group ≡ None → is_over strict p ≡ false → answer_to line ≡ Ok (Some (OnHistory (Edit command)))
    → applied command (standing_document p.history) ≡ Ok edited → answer_to undo ≡ Ok (Some (OnHistory Undo))
    → ((after_lines strict p (line ∷ undo ∷ [])).replies ≡ p.replies ++ accepted_reply [] ++ accepted_reply [])
    × (tile_of (after_lines strict p (line ∷ undo ∷ [])) ≡ tile_of p)

-- the same for two lines at the end of a script, at a depth of at least 1: they are accepted, and the tile is the one
-- of the script without them
abbrev pub UndoInAScript : Type 0
UndoInAScript =
    (document : Document) (options : Options) (prefix line undo : List ℕ) (command : Command) (edited : Document)
    → 1 ≤ options.depth → EndsWithALine prefix → (ran document options prefix).history.group ≡ None
    → is_over options.strict (ran document options prefix) ≡ false → HasNoLineFeed line → HasNoLineFeed undo
    → answer_to line ≡ Ok (Some (OnHistory (Edit command)))
    → applied command (standing_document (ran document options prefix).history) ≡ Ok edited
    → answer_to undo ≡ Ok (Some (OnHistory Undo))
    → ((ran document options (prefix ++ with_feed line ++ with_feed undo)).replies ≡ (ran document options prefix).replies ++ accepted_reply [] ++ accepted_reply [])
    × (tile_of (ran document options (prefix ++ with_feed line ++ with_feed undo)) ≡ tile_of (ran document options prefix))

-- ---- steps and marks

-- none of the lines asks to end or cancel a step
abbrev pub LeaveOpen : List (List ℕ) → Type 0
LeaveOpen lines = AllByRecursion LeavesOpen (requests_of lines)

-- in a run that is not strict, where no step is open: a line that opens one, any lines that neither end nor cancel a
-- step, and a line that cancels it leave the history as it was
abbrev pub CancelInARun : Type 0
CancelInARun =
    (p : Progress) (begin cancel : List ℕ) (lines : List (List ℕ)) → p.history.group ≡ None
    → answer_to begin ≡ Ok (Some (OnHistory Begin)) → LeaveOpen lines → answer_to cancel ≡ Ok (Some (OnHistory Cancel))
    → (after_lines false p (begin ∷ lines ++ cancel ∷ [])).history ≡ p.history

-- in a run that is not strict, in a sound history where no step is open: a line that opens one, any lines that neither
-- end nor cancel a step, with an accepted command among them, a line that ends it and a line that undoes it leave the
-- tile as it was
abbrev pub StepUndoneInARun : Type 0
StepUndoneInARun =
    (p : Progress) (begin end undo : List ℕ) (lines : List (List ℕ)) → IsSound p.history → p.history.group ≡ None
    → answer_to begin ≡ Ok (Some (OnHistory Begin)) → LeaveOpen lines → ¬ ((after_lines false p (begin ∷ lines)).history.group ≡ Some [])
    → answer_to end ≡ Ok (Some (OnHistory End)) → answer_to undo ≡ Ok (Some (OnHistory Undo))
    → tile_of (after_lines false p (begin ∷ lines ++ end ∷ undo ∷ [])) ≡ tile_of p

-- in a run that is not strict, where a line that sets a mark in a sound history is accepted, and so, after any lines
-- that do not set it again, is a line that goes back to it: the tile is the one that stood when it was set
abbrev pub BackInARun : Type 0
BackInARun =
    (p : Progress) (name mark back : List ℕ) (lines : List (List ℕ)) (set gone : History) → IsSound p.history
    → answer_to mark ≡ Ok (Some (OnHistory (SetMark name))) → marked name p.history ≡ Ok set
    → AllByRecursion (SetsOther name) (requests_of lines)
    → answer_to back ≡ Ok (Some (OnHistory (GoBack name))) → gone_back name (after_lines false p (mark ∷ lines)).history ≡ Ok gone
    → tile_of (after_lines false p (mark ∷ lines ++ back ∷ [])) ≡ tile_of p

-- ---- out of memory

-- the run with all memory is one of those in which growths may be refused
abbrev pub RunsAreWalks : Type 0
RunsAreWalks = (strict : Bool) (p : Progress) (lines : List (List ℕ)) → Walk strict p lines (after_lines strict p lines)

-- with all memory no reply is 60 or 54
abbrev pub NoRunIsOutOfMemory : Type 0
NoRunIsOutOfMemory = (document : Document) (options : Options) (script : List ℕ) → NoneIsOutOfMemory (ran document options script).replies

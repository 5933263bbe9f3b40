-- What a script does to a tile, line by line.
use Rattle.std.specs.Prelude.{◌≡◌, ℕ, ◌+◌, Bool, true, false, ◌&&◌, if◌then◌else◌, MatchBool, List, [], ◌∷◌, ◌++◌, Option, Some, None, Result, Ok, Err, ◌⊎◌}
use Rattle.mvt_document.specs.Plain.{Document}
use Rattle.mvt_document.specs.Wire.{bytes_of}
use Rattle.tile_arguments.specs.Request.{Request}
use Rattle.tile_script.specs.Line.{answer_to, TakesMemory}
use Rattle.tile_lines.specs.Lines.{lines_of}
use Rattle.mvt_history_steps.specs.History.{History, begun, standing_document}
use Rattle.mvt_history_steps.specs.declared.error.HistoryError.TheVariants.{Stopped}
use Rattle.tile_course.specs.Replies.{accepted_reply, refused_reply}
use Rattle.tile_course.specs.Answering.{Answer, carried_out}
use Rattle.tile_course.specs.Answers.{MayStop, NeedsMemory}
use Rattle.tile_course.specs.declared.outcome.Options.{Options}
use Rattle.tile_lines.specs.declared.parse_error.ParseError.{ParseError}
use Rattle.tile_lines.specs.declared.parse_error.ParseError.TheVariants as parse
use Rattle.tile_course.specs.declared.refused.Refused.{Refused}
use Rattle.tile_course.specs.declared.refused.Refused.TheVariants as refused

-- what a script has come to: how many lines were carried out, the history, the replies, and whether a line was refused
pub record Progress : Type 0 where
  pub lines : ℕ
  pub history : History
  pub replies : List ℕ
  pub any_refused : Bool

-- the progress before the first line, on a document, with this depth of undo
abbrev pub at_first : Document → ℕ → Progress
at_first document depth = record { lines = 0; history = begun document depth; replies = []; any_refused = false }

-- the progress after a line that asks for nothing: it is counted
abbrev pub silent : Progress → Progress
silent p = record p { lines = p.lines + 1 }

-- the progress after an accepted line: its history, and its lines and `ok` as the reply
abbrev pub accepted : Answer → Progress → Progress
accepted answer p = record p { lines = p.lines + 1; history = answer.history; replies = p.replies ++ accepted_reply answer.lines }

-- the progress after a refused line: it changes nothing but the count, the replies, and that a line was refused
abbrev pub refused_for : Refused → Progress → Progress
refused_for reason p = record p { lines = p.lines + 1; replies = p.replies ++ refused_reply (p.lines + 1) reason; any_refused = true }

-- the progress after a line whose request was accepted or refused
abbrev pub settled_by : Progress → Result Answer Refused → Progress
settled_by p (Ok answer) = accepted answer p
settled_by p (Err reason) = refused_for reason p

-- the progress after a line that asks for nothing, asks for a request, or is refused
abbrev pub answered_by : Progress → Result (Option Request) ParseError → Progress
answered_by p (Ok None) = silent p
answered_by p (Ok (Some request)) = settled_by p (carried_out request p.history)
answered_by p (Err error) = refused_for (refused.Parse error) p

-- the progress after one more line
abbrev pub after_line : Progress → List ℕ → Progress
after_line p line = answered_by p (answer_to line)

-- the run is strict, and a line was refused
abbrev pub is_over : Bool → Progress → Bool
is_over strict p = strict && p.any_refused

-- the progress after the lines in order, up to the one at which the run is over
abbrev pub after_lines : Bool → Progress → List (List ℕ) → Progress
after_lines strict p [] = p
after_lines strict p (line ∷ lines) = if is_over strict p then p else after_lines strict (after_line p line) lines

-- the progress after the lines of a whole script, on a document
abbrev pub ran : Document → Options → List ℕ → Progress
ran document options script = after_lines options.strict (at_first document options.depth) (lines_of script)

-- the bytes of the standing document
abbrev pub tile_of : Progress → List ℕ
tile_of p = bytes_of (standing_document p.history)

-- the progress after a line that is refused as out of memory: it changes nothing else
abbrev pub without_memory : Progress → Progress
without_memory p = refused_for (refused.Parse parse.NoMemory) p

-- the progress after a line that was stopped with `taken` steps, or commands, taken: it is refused so, and the history
-- `between` stands
abbrev pub stopped_at : ℕ → History → Progress → Progress
stopped_at taken between p = refused_for (refused.History (Stopped taken)) (record p { history = between })

-- the line asks to go back or to cancel, and was stopped where it may be (`MayStop`)
pub record IsStopped (p : Progress) (line : List ℕ) (q : Progress) : Type 0 where
  pub request : Request
  pub asked : answer_to line ≡ Ok (Some request)
  pub taken : ℕ
  pub between : History
  pub stops : MayStop request p.history taken between
  pub stopped : q ≡ stopped_at taken between p

-- memory may run out at this line: as it is read, or as its request is carried out on this history
abbrev pub MayRunOut : List ℕ → History → Type 0
MayRunOut line history = TakesMemory line ⊎ ((request : Request) × (answer_to line ≡ Ok (Some request)) × NeedsMemory request history)

-- `q` may follow `p` after this line, where growths may be refused: the progress as it is defined; or, where memory may
-- run out at the line, refused as out of memory; or stopped
abbrev pub MayFollow : Progress → List ℕ → Progress → Type 0
MayFollow p line q = (q ≡ after_line p line) ⊎ (MayRunOut line p.history × (q ≡ without_memory p)) ⊎ IsStopped p line q

-- `q` may follow `p` after the lines in order, up to the one at which the run is over, where growths may be refused
abbrev pub Walk : Bool → Progress → List (List ℕ) → Progress → Type 0
Walk strict p [] q = q ≡ p
Walk strict p (line ∷ lines) q = MatchBool (is_over strict p) (q ≡ p) ((next : Progress) × MayFollow p line next × Walk strict next lines q)

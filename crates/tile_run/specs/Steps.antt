-- What the steps of a run return.
use Rattle.std.specs.Prelude.{◌≡◌, ℕ, ◌+◌, ◌≤◌, Bool, true, false, List, [], ◌++◌, length, Option, Some, None, IsSome, Result, Ok, Err}
use Rattle.mvt_document.specs.declared.Document.{Document}
use Rattle.mvt_document.specs.declared.TheConstants.{MAX_FILE}
use Rattle.mvt_document.specs.Held.{Held}
use Rattle.mvt_document.specs.Stands.{document_of}
use Rattle.mvt_wire.specs.declared.faults.ReadError.{ReadError}
use Rattle.mvt_wire.specs.declared.faults.ReadError.TheVariants as read_errors
use Rattle.tile_device.specs.Seen.{Seen, Intake, Output, IsPrefix, Reads, Receives, Sends, Supplies, Writes, nothing_read, sink_at, source_at}
use Rattle.tile_device.specs.declared.device.Sink.{Ghosts as SinkMembers}
use Rattle.tile_device.specs.declared.device.Source.{Ghosts as SourceMembers}
use Rattle.tile_device.specs.declared.device.Trouble.{Trouble}
use Rattle.tile_device.specs.declared.device.Trouble.TheVariants.{Interrupted}
use Rattle.tile_lines.specs.Cutting.{Holding, after_pushes, nothing_held}
use Rattle.tile_lines.specs.Lines.{whole_lines}
use Rattle.tile_run.specs.declared.editor.Editor.{Editor}
use Rattle.tile_course.specs.declared.outcome.LineStop.{LineStop}
use Rattle.tile_course.specs.declared.outcome.LineStop.TheVariants as line_stops
use Rattle.tile_course.specs.declared.outcome.ScriptStop.{ScriptStop}
use Rattle.tile_course.specs.declared.outcome.ScriptStop.TheVariants as script_stops
use Rattle.tile_course.specs.Headline.{Devices}
use Rattle.tile_course.specs.declared.outcome.TileFault.TheVariants as faults
use Rattle.tile_course.specs.declared.outcome.Unopened.{Unopened}
use Rattle.tile_course.specs.declared.outcome.Unopened.TheVariants as unopened
use Rattle.tile_course.specs.declared.outcome.Unwritten.{Unwritten}
use Rattle.tile_course.specs.declared.outcome.Unwritten.TheVariants as unwritten
use Rattle.tile_course.specs.declared.refused.Refused.{Refused}
use Rattle.tile_course.specs.declared.limits.TheConstants.{MAX_SCRIPT}
use Rattle.mvt_history.specs.declared.session.Session.{Session}
use Rattle.tile_course.specs.Course.{IsOpened, IsFaulty, IsWritten, CarriesThrough, StopsStrictly, StopsAtScript, StopsAtReplies, IsCutShort}
use Rattle.mvt_history_steps.specs.History.{History}
use Rattle.tile_course.specs.Run.{Progress, silent, accepted, refused_for, is_over, MayFollow, Walk}
use Rattle.mvt_history_steps.specs.Session.{StandsFor}
use Rattle.mvt_history_steps.specs.Standing.{Standing}
use Rattle.mvt_history_steps.specs.declared.error.HistoryError.{HistoryError}
use Rattle.mvt_meaning.specs.Requests.{Edit}
use Rattle.tile_arguments.specs.Request.{Request, OnHistory}
use Rattle.tile_course.specs.Answering.{carried_out}
use Rattle.tile_course.specs.Answers.{IsAnswered}
use Rattle.tile_course.specs.declared.refused.Refused.TheVariants as refused

-- ---- the tile

-- the document that opening returned along with something else, or why it returned none
abbrev pub document_in : {A : Type 0} → Result (Document × A) Unopened → Result Document Unopened
document_in (Ok opened) = Ok opened.0
document_in (Err stop) = Err stop

-- how opening the tile ended, for what was read of it: with its document, with trouble, with what is wrong with it, or
-- out of memory
abbrev pub OpensTile : Result Document Unopened → Intake → Type 0
OpensTile (Ok document) tile = IsOpened tile (document_of document)
OpensTile (Err unopened.Device) tile = IsSome tile.trouble
OpensTile (Err (unopened.Refused fault)) tile = (tile.trouble ≡ None) × IsFaulty fault tile
OpensTile (Err unopened.NoMemory) tile = tile.trouble ≡ None

-- between two moments the tile was read, to its end or to the first byte that is too many, and opening it ended with
-- this result
abbrev pub Opening : Seen → Seen → ℕ → ℕ → Result Document Unopened → Type 0
Opening before after retries left result = (tile : Intake) × (length tile.bytes ≤ MAX_FILE + 1) × OpensTile result tile × Reads before after retries left tile

-- why a tile is not opened, for what its reader says
abbrev pub stop_for : ReadError → Unopened
stop_for (read_errors.BadWire place) = unopened.Refused (faults.BadWire place)
stop_for read_errors.FileTooLarge = unopened.Refused faults.FileTooLarge
stop_for read_errors.NoMemory = unopened.NoMemory

-- the devices at one moment, with the tile in this state
abbrev pub devices_with : {A B C : Type 0} → Seen → SourceMembers A → SinkMembers B → SinkMembers C → A → B → C → Devices
devices_with tile a b c script replies out = record { tile = tile; script = source_at a script; replies = sink_at b replies; out = sink_at c out }

-- ---- a request

-- the request changes the history, and is not a command
abbrev pub ChangesHistory : Request → Type 0
ChangesHistory (OnHistory (Edit command)) = ⊥
ChangesHistory (OnHistory request) = Unit {0}
ChangesHistory request = ⊥

-- such a request is accepted, and the session holds the history after it; or it is refused or stopped
abbrev pub AnswersChange : Request → History → Result (Unit {0}) HistoryError → Standing → Type 0
AnswersChange request history (Ok done) new = (after : History) × (carried_out request history ≡ Ok (record { lines = []; history = after })) × StandsFor new after
AnswersChange request history (Err error) new = IsAnswered request history (Err (refused.History error)) new

-- ---- a line

-- the lines that an answer has, or its refusal
abbrev pub printed_in : Result (Held ℕ) Refused → Result (List ℕ) Refused
printed_in (Ok lines) = Ok lines.items
printed_in (Err reason) = Err reason

-- the progress after a line with this answer and this history
abbrev pub answered : Progress → History → Option (Result (Held ℕ) Refused) → Progress
answered p history None = silent (record p { history = history })
answered p history (Some (Ok lines)) = accepted (record { lines = lines.items; history = history }) p
answered p history (Some (Err reason)) = refused_for reason (record p { history = history })

-- the session holds the history of a progress that may follow
pub record CarriesOut (session : Session) (line : List ℕ) (answer : Option (Result (Held ℕ) Refused)) (p : Progress) : Type 0 where
  pub history : History
  pub follows : MayFollow p line (answered p history answer)
  pub stands : StandsFor session history

-- the editor has come to this progress
pub record IsAt (editor : Editor) (is_strict : Bool) (p : Progress) : Type 0 where
  pub strict : editor.strict ≡ is_strict
  pub stands : StandsFor editor.session p.history
  pub lines : editor.lines ≡ p.lines
  pub refused : editor.any_refused ≡ p.any_refused

-- the editor after a line, refused or not
abbrev pub settled : Bool → Editor → Editor
settled false editor = editor
settled true editor = record editor { any_refused = true }

-- how a line that was replied to ends, in a strict run or not, refused or not
abbrev pub ends_line : Bool → Bool → Result (Unit {0}) LineStop
ends_line strict false = Ok tt
ends_line false true = Ok tt
ends_line true true = Err line_stops.Strict

-- ---- moments

-- the script and the replies at one moment, and the retries that are left
pub record Moment : Type 0 where
  pub script : Seen
  pub replies : Seen
  pub retries : ℕ

-- the moment with the sink of the replies in this state
abbrev pub moment_at : {W : Type 0} → SinkMembers W → Seen → W → ℕ → Moment
moment_at members script replies retries = record { script = script; replies = sink_at members replies; retries = retries }

-- between two moments the replies were sent these bytes, all of them, or, before this trouble, a prefix of them
abbrev pub Replies : Moment → Moment → List ℕ → Option Trouble → Type 0
Replies before after bytes trouble = Sends before.replies after.replies before.retries after.retries bytes trouble

-- ---- a line, carried out and replied to

-- the line was carried out and replied to, and the run is over or not, as `is_last` says
pub record Advances (before after : Moment) (editor : Editor) (strict : Bool) (line : List ℕ) (p : Progress) (is_last : Bool) : Type 0 where
  pub next : Progress
  pub follows : MayFollow p line next
  pub at : IsAt editor strict next
  pub over : is_over strict next ≡ is_last
  pub reply : List ℕ
  pub replied : next.replies ≡ p.replies ++ reply
  pub sends : Replies before after reply None

-- the reply to the line met trouble: a prefix of it was written
pub record Falters (before after : Moment) (line : List ℕ) (p : Progress) : Type 0 where
  pub next : Progress
  pub follows : MayFollow p line next
  pub reply : List ℕ
  pub replied : next.replies ≡ p.replies ++ reply
  pub trouble : Trouble
  pub sends : Replies before after reply (Some trouble)

-- how carrying out a line ended: it was replied to, it ended a strict run, or its reply met trouble
abbrev pub AnswersLine : Moment → Moment → Editor → Bool → List ℕ → Progress → Result (Unit {0}) LineStop → Type 0
AnswersLine before after editor strict line p (Ok done) = Advances before after editor strict line p false
AnswersLine before after editor strict line p (Err line_stops.Strict) = Advances before after editor strict line p true
AnswersLine before after editor strict line p (Err line_stops.Replies) = Falters before after line p

-- ---- lines

-- between two moments the lines were carried out and replied to, and the run is over or not, as `is_last` says
pub record Comes (strict : Bool) (start : Progress) (lines : List (List ℕ)) (before after : Moment) (is_last : Bool) : Type 0 where
  pub progress : Progress
  pub walk : Walk strict start lines progress
  pub over : is_over strict progress ≡ is_last
  pub sends : Replies before after progress.replies None

-- the lines were carried out and replied to, the run goes on, and the editor has come there
pub record ComesTo (strict : Bool) (start : Progress) (lines : List (List ℕ)) (before after : Moment) (editor : Editor) : Type 0 where
  pub comes : Comes strict start lines before after false
  pub at : IsAt editor strict comes.progress

-- how carrying out lines ended: all were replied to, one ended a strict run, or a reply met trouble
abbrev pub CarriesOutLines : Bool → Progress → List (List ℕ) → Moment → Moment → Editor → Result (Unit {0}) LineStop → Type 0
CarriesOutLines strict start lines before after editor (Ok done) = ComesTo strict start lines before after editor
CarriesOutLines strict start lines before after editor (Err line_stops.Strict) = Comes strict start lines before after true
CarriesOutLines strict start lines before after editor (Err line_stops.Replies) =
    (output : Output) × IsCutShort strict start lines output × Writes before.replies after.replies before.retries after.retries output

-- the cutter was given these bytes
abbrev pub WasGiven : Holding → List ℕ → Type 0
WasGiven cutter bytes = cutter ≡ after_pushes nothing_held bytes

-- ---- the script

-- how carrying out a script ended, for what was read of it and written to the replies
abbrev pub EndsScript : Bool → Progress → Intake → Output → Editor → Result (Unit {0}) ScriptStop → Type 0
EndsScript strict start script replies editor (Ok done) = (progress : Progress) × CarriesThrough strict start script replies progress × IsAt editor strict progress
EndsScript strict start script replies editor (Err script_stops.Script) = StopsAtScript strict start script replies
EndsScript strict start script replies editor (Err script_stops.Replies) = StopsAtReplies strict start script replies
EndsScript strict start script replies editor (Err script_stops.Strict) = StopsStrictly strict start script replies
EndsScript strict start script replies editor (Err script_stops.NoMemory) = (script ≡ nothing_read) × IsWritten replies []

-- the script was read and its lines carried out, up to where that ended
pub record CarriesOutScript (strict : Bool) (start : Progress) (before after : Moment) (editor : Editor) (result : Result (Unit {0}) ScriptStop) : Type 0 where
  pub script : Intake
  pub within : length script.bytes ≤ MAX_SCRIPT + 1
  pub supplies : Supplies before.script after.script script
  pub replies : Output
  pub receives : Receives before.replies after.replies replies
  pub spent : after.retries + script.retries + replies.retries ≡ before.retries
  pub last_read : script.trouble ≡ Some Interrupted → after.retries ≡ 0
  pub last_write : replies.trouble ≡ Some Interrupted → after.retries ≡ 0
  pub ends : EndsScript strict start script replies editor result

-- the script was read to its end, and its whole lines were carried out with `allowed` retries; what the cutter holds is
-- left
pub record ReadsWhole (strict : Bool) (start : Progress) (before after : Moment) (editor : Editor) (cutter : Holding) : Type 0 where
  pub bytes : List ℕ
  pub within : length bytes ≤ MAX_SCRIPT
  pub given : WasGiven cutter bytes
  pub retries : ℕ
  pub supplies : Supplies before.script after.script (record { bytes = bytes; is_whole = true; retries = retries; trouble = None })
  pub allowed : ℕ
  pub share : allowed + retries ≡ before.retries
  pub comes : ComesTo strict start (whole_lines bytes) (record before { retries = allowed }) after editor

-- how reading a script and carrying out its whole lines ended
abbrev pub CarriesOutPieces : Bool → Progress → Moment → Moment → Editor → Holding → Result (Unit {0}) ScriptStop → Type 0
CarriesOutPieces strict start before after editor cutter (Ok done) = ReadsWhole strict start before after editor cutter
CarriesOutPieces strict start before after editor cutter (Err stop) = CarriesOutScript strict start before after editor (Err stop)

-- ---- the tile to write

-- how writing the tile ended: it was written, a prefix of it was written before a trouble, or memory ran out
abbrev pub WritesTile : {A : Type 0} → List ℕ → Output → Result A Unwritten → Type 0
WritesTile file out (Ok done) = IsWritten out file
WritesTile file out (Err unwritten.Device) = IsPrefix out.bytes file × IsSome out.trouble
WritesTile file out (Err unwritten.NoMemory) = IsWritten out []

-- What a session answers, and the history that it holds.
use Rattle.std.specs.Prelude.{◌≡◌, ℕ, ◌+◌, ◌-◌, ◌<◌, ◌≤◌, ℤ, pos, ◌-ℤ◌, ◌⊎◌, List, map, length, take, Option, Some, None, Result, Ok, Err, IsOk}
use Rattle.mvt_document.specs.declared.TheConstants.{MAX_FILE}
use Rattle.mvt_document.specs.Wire.{bytes_of}
use Rattle.mvt_meaning.specs.Command.{Command}
use Rattle.mvt_meaning.specs.Memory.{AsksForMemory}
use Rattle.mvt_meaning.specs.declared.refusal.Refusal.{Refusal}
use Rattle.mvt_meaning.specs.declared.refusal.Refusal.TheVariants as edit
use Rattle.mvt_history_steps.specs.Marks.{Mark, counted_from, point_of}
use Rattle.mvt_history_steps.specs.History.{History, IsSound, standing_document, present_document, at_point, with_group, edited, gone_back, cancelled}
use Rattle.mvt_history_steps.specs.Reached.{LeadBack, LeadOn, LeadOut}
use Rattle.mvt_history_steps.specs.Standing.{Standing}
use Rattle.mvt_document.specs.declared.document.Document as held
use Rattle.mvt_document.specs.Stands.{document_of}
use Rattle.std.specs.Borrow.{Bor}
use Rattle.mvt_history_steps.specs.declared.error.HistoryError.{HistoryError}
use Rattle.mvt_history_steps.specs.declared.error.StartError.{StartError}
use Rattle.mvt_history_steps.specs.declared.error.StartError.TheVariants as start
use Rattle.mvt_history_steps.specs.declared.error.StartError.TheVariants.{TooLarge}
use Rattle.mvt_history_steps.specs.declared.error.HistoryError.TheVariants.{Stopped, NoMemory}

-- ---- which history a session holds

-- the session holds this history, which is sound, and whose start a file can hold: its document, its depth, its marks
-- and how far undo and redo go are those of the history, and its changes lead to the documents of the history
pub record StandsFor (session : Standing) (history : History) : Type 0 where
  pub sound : IsSound history
  pub fits_in_file : length (bytes_of history.start) ≤ MAX_FILE
  pub depth : session.depth ≡ history.depth
  pub document : session.document ≡ standing_document history
  pub undo_reaches : history.floor + length session.undo ≡ history.present
  pub redo_reaches : history.present + length session.redo ≡ length history.steps
  pub undo_leads : LeadBack history.steps history.start history.present session.undo
  pub redo_leads : LeadOn history.steps history.start history.present session.redo
  pub pending_leads : LeadOut history.group (present_document history) session.pending
  pub marks : history.marks ≡ map (counted_from history.floor) session.marks

-- ---- answers

-- the session holds the history that was asked for; or the request is refused as defined, and the session holds the
-- history before
abbrev pub Answers : Result History HistoryError → History → Result (Unit {0}) HistoryError → Standing → Type 0
Answers asked history (Ok done) new = (after : History) × (asked ≡ Ok after) × StandsFor new after
Answers asked history (Err error) new = (asked ≡ Err error) × StandsFor new history

-- the session holds the history that was asked for, or out of memory is answered in place of that; or the request is
-- refused as defined; where it is not accepted the session holds the history before
abbrev pub AnswersWithMemory : Result History HistoryError → History → Result (Unit {0}) HistoryError → Standing → Type 0
AnswersWithMemory asked history (Ok done) new = (after : History) × (asked ≡ Ok after) × StandsFor new after
AnswersWithMemory asked history (Err error) new = (((error ≡ NoMemory) × IsOk asked) ⊎ (asked ≡ Err error)) × StandsFor new history

-- the session holds the history after the command; or it is refused as defined, or out of memory is answered in place
-- of either, where the command asks for memory, and the session holds the history before
abbrev pub AnswersCommand : Command → History → Result (Unit {0}) Refusal → Standing → Type 0
AnswersCommand command history (Ok done) new = (after : History) × (edited command history ≡ Ok after) × StandsFor new after
AnswersCommand command history (Err refusal) new = (((refusal ≡ edit.NoMemory) × AsksForMemory command (standing_document history)) ⊎ (edited command history ≡ Err refusal)) × StandsFor new history

-- ---- requests that may stop halfway

-- the point `at` is `taken` steps along the way from one point to another, and more are left
abbrev pub IsOnTheWay : ℕ → ℕ → ℕ → ℕ → Type 0
IsOnTheWay from to taken at = ((at + taken ≡ from) × (to < at)) ⊎ ((from + taken ≡ at) × (at < to))

-- the history `between` is `taken` steps nearer to the mark than the other, and not at it; no step is open
pub record StopsAt (name : List ℕ) (history : History) (taken : ℕ) (between : History) : Type 0 where
  pub is_closed : history.group ≡ None
  pub to : ℕ
  pub marked : point_of name history.marks ≡ Some to
  pub at : ℕ
  pub on_the_way : IsOnTheWay history.present to taken at
  pub stands : between ≡ at_point at history

-- the session holds the history at the mark; or the request is refused as defined, and the session holds the history
-- before; or it was stopped on the way, and the session holds the history there
abbrev pub AnswersBack : List ℕ → History → Result (Unit {0}) HistoryError → Standing → Type 0
AnswersBack name history (Ok done) new = (after : History) × (gone_back name history ≡ Ok after) × StandsFor new after
AnswersBack name history (Err error) new = ((gone_back name history ≡ Err error) × StandsFor new history) ⊎ ((taken : ℕ) × (between : History) × (error ≡ Stopped taken) × StopsAt name history taken between × StandsFor new between)

-- in the history `between` the last `taken` commands of the open step are taken back, and others are left
pub record StopsWithin (history : History) (taken : ℕ) (between : History) : Type 0 where
  pub commands : List Command
  pub is_open : history.group ≡ Some commands
  pub some_left : taken < length commands
  pub stands : between ≡ with_group (Some (take (length commands - taken) commands)) history

-- the session holds the history without the open step; or the request is refused as defined, and the session holds the
-- history before; or it was stopped within the step, and the session holds the history there
abbrev pub AnswersCancel : History → Result (Unit {0}) HistoryError → Standing → Type 0
AnswersCancel history (Ok done) new = (after : History) × (cancelled history ≡ Ok after) × StandsFor new after
AnswersCancel history (Err error) new = ((cancelled history ≡ Err error) × StandsFor new history) ⊎ ((taken : ℕ) × (between : History) × (error ≡ Stopped taken) × StopsWithin history taken between × StandsFor new between)

-- the error says that a request was stopped on the way
abbrev pub IsStop : HistoryError → Type 0
IsStop (Stopped taken) = Unit {0}
IsStop error = ⊥

-- ---- start

-- the document comes back as it was: as too large, where no file can hold it, or out of memory, where one can
abbrev pub NotStarted : held.Document → StartError → Type 0
NotStarted document (TooLarge refused) = (refused ≡ document) × (MAX_FILE < length (bytes_of (document_of document)))
NotStarted document (start.NoMemory refused) = (refused ≡ document) × (length (bytes_of (document_of document)) ≤ MAX_FILE)

-- ---- marks

-- what is returned of a mark, where there is one: its name, and its point minus the present one
abbrev pub SeesMark : ℕ → Option (Bor (List ℕ) × ℤ) → Option Mark → Type 0
SeesMark present None None = Unit {0}
SeesMark present (Some seen) (Some mark) = (seen.0.now ≡ mark.name) × (seen.1 ≡ pos mark.point -ℤ pos present)
SeesMark present seen mark = ⊥

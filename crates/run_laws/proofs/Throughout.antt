-- What holds of the document at the start, and of what each valid command makes, holds throughout a history.
use Rattle.std.proofs.Common.{◌≡◌, ℕ, ◌+◌, ◌-◌, ◌==◌, ◌||◌, is_some, nat_lt, Option, Some, None, Result, Ok, Err, IfOk, List, [], ◌∷◌, ◌++◌, length, take, refl}
use Rattle.std.proofs.lemmas.Bool.{cond_both}
use Rattle.std.specs.List.{AllByRecursion}
use Rattle.std.specs.Result.{result_unwrap_or}
use Rattle.mvt_document.specs.Opens.{IsDocument}
use Rattle.mvt_document.specs.Plain.{Document}
use Rattle.mvt_meaning.specs.Command.{Command, IsCommand}
use Rattle.mvt_meaning.specs.Meaning.{after, applied}
use Rattle.mvt_meaning.specs.declared.refusal.Refusal.{Refusal}
use Rattle.command_laws.proofs.Documents.{command_makes_document}
use Rattle.command_laws.proofs.Lengths.{command_fits}
use Rattle.mvt_document.proofs.EachItem.{all_joined, all_taken}
use Rattle.mvt_history_steps.specs.Marks.{Mark, bound, point_of, unbound}
use Rattle.mvt_history_steps.specs.History.{History, begun, after_all, after_steps, present_document, standing_document, commands_in, at_point, with_marks, with_group, with_step, with_command, edited_to, edited, unless_open, undone, redone, marked, unmarked, gone_to, gone_back, opened, ended, closed, cancelled}
use Rattle.mvt_meaning.specs.Requests.{HistoryRequest, Edit, Undo, Redo, SetMark, TakeMark, GoBack, Begin, End, Cancel}
use Rattle.mvt_history_steps.specs.Requests.{asked}
use Rattle.mvt_history_steps.proofs.Sound.{or_before_has}
use Rattle.mvt_history_steps.specs.declared.TheConstants.{MAX_MARKS}
use Rattle.mvt_history_steps.specs.declared.error.HistoryError.{HistoryError}
use Rattle.mvt_history_steps.specs.declared.error.HistoryError.TheVariants.{NothingToUndo, NothingToRedo, NoMark, TooManyMarks, NoGroup}
use Rattle.run_laws.specs.HistoryLaws.{FitsAFile, HasCommands, HistoryFits, HistoryOfDocuments, HoldsThroughout, IsRequest, StaysValid}

-- ---- documents

module _ (P : Document → Type 0) (keeps : (command : Command) (document : Document) → IsCommand command → P document → P (after command document)) where
  after_commands : (commands : List Command) (document : Document) → AllByRecursion IsCommand commands → P document → P (after_all commands document)
  after_commands [] document valid holds = holds
  after_commands (command ∷ commands) document valid holds = after_commands commands (after command document) valid.1 (keeps command document valid.0 holds)

  through_steps : (steps : List (List Command)) (document : Document) → AllByRecursion (AllByRecursion IsCommand) steps → P document → P (after_steps steps document)
  through_steps [] document valid holds = holds
  through_steps (step ∷ steps) document valid holds = through_steps steps (after_all step document) valid.1 (after_commands step document valid.0 holds)

  throughout : (history : History) → HasCommands history → P history.start → HoldsThroughout P history
  throughout history valid holds =
      let at : (point : ℕ) → P (after_steps (take point history.steps) history.start) = λ point. through_steps (take point history.steps) history.start (all_taken (AllByRecursion IsCommand) point history.steps valid.steps) holds in
      let commands = commands_in history.group in
      record {
        points = at;
        within = λ count. after_commands (take count commands) (present_document history) (all_taken IsCommand count commands valid.group) (at history.present);
        standing = after_commands commands (present_document history) valid.group (at history.present);
      }

-- what holds of the document, and of what an accepted command makes, holds after the command
after_holds : (P : Document → Type 0) (document : Document) (made : Result Document Refusal) → P document → ((new : Document) → made ≡ Ok new → P new) → P (result_unwrap_or made document)
after_holds P document (Ok new) holds made_holds = made_holds new refl
after_holds P document (Err refusal) holds made_holds = holds

document_after : (command : Command) (document : Document) → IsCommand command → IsDocument document → IsDocument (after command document)
document_after command document fits valid = after_holds IsDocument document (applied command document) valid (λ new made. command_makes_document command document new fits valid made)

pub history_of_documents : HistoryOfDocuments
history_of_documents history valid commands = throughout IsDocument document_after history commands valid

-- ---- the limit

fits_after : (command : Command) (document : Document) → IsCommand command → FitsAFile document → FitsAFile (after command document)
fits_after command document valid fits =
    after_holds FitsAFile document (applied command document) fits
    (λ new made. record { valid = command_makes_document command document new valid fits.valid made; within = command_fits command document new fits.valid fits.within made })

pub history_fits : HistoryFits
history_fits history fits commands = throughout FitsAFile fits_after history commands fits

-- ---- requests

module _ (start : Document) where
  -- the history began with this document, and its commands are valid
  pub record IsFrom (history : History) : Type 0 where
    pub began : history.start ≡ start
    pub commands : HasCommands history

  with_step_valid : (step : List Command) (history : History) → AllByRecursion IsCommand step → IsFrom history → IsFrom (with_step step history)
  with_step_valid step history new valid =
      let first = take history.present history.steps in
      let standing = all_taken (AllByRecursion IsCommand) history.present history.steps valid.commands.steps in
      record { began = valid.began; commands = record { steps = all_joined (AllByRecursion IsCommand) first (step ∷ []) standing (new, tt); group = tt } }

  pub with_group_valid : (group : Option (List Command)) (history : History) → AllByRecursion IsCommand (commands_in group) → IsFrom history → IsFrom (with_group group history)
  with_group_valid group history new valid = record { began = valid.began; commands = record { steps = valid.commands.steps; group = new } }

  pub at_point_valid : (point : ℕ) (history : History) → IsFrom history → IsFrom (at_point point history)
  at_point_valid point history valid = record { began = valid.began; commands = record { steps = valid.commands.steps; group = valid.commands.group } }

  with_marks_valid : (marks : List Mark) (history : History) → IsFrom history → IsFrom (with_marks marks history)
  with_marks_valid marks history valid = record { began = valid.began; commands = record { steps = valid.commands.steps; group = valid.commands.group } }

  with_command_valid : (command : Command) (group : Option (List Command)) (history : History) → IsCommand command → AllByRecursion IsCommand (commands_in group) → IsFrom history → IsFrom (with_command command group history)
  with_command_valid command None history new pending valid = with_step_valid (command ∷ []) history (new, tt) valid
  with_command_valid command (Some commands) history new pending valid = with_group_valid (Some (commands ++ command ∷ [])) history (all_joined IsCommand commands (command ∷ []) pending (new, tt)) valid

  edited_valid : (command : Command) (history : History) (made : Result Document Refusal) → IsCommand command → IsFrom history → IfOk (edited_to command history made) IsFrom
  edited_valid command history (Ok document) new valid = with_command_valid command history.group history new valid.commands.group valid
  edited_valid command history (Err refusal) new valid = tt

  unless_open_valid : (group : Option (List Command)) (answer : Result History HistoryError) → IfOk answer IsFrom → IfOk (unless_open group answer) IsFrom
  unless_open_valid None answer valid = valid
  unless_open_valid (Some commands) answer valid = tt

  gone_valid : (found : Option ℕ) (history : History) → IsFrom history → IfOk (gone_to found history) IsFrom
  gone_valid None history valid = tt
  gone_valid (Some point) history valid = at_point_valid point history valid

  ended_valid : (group : Option (List Command)) (history : History) → AllByRecursion IsCommand (commands_in group) → IsFrom history → IfOk (ended group history) IsFrom
  ended_valid None history pending valid = tt
  ended_valid (Some []) history pending valid = with_group_valid None history tt valid
  ended_valid (Some (command ∷ commands)) history pending valid = with_step_valid (command ∷ commands) history pending valid

  pub asked_valid : (request : HistoryRequest) (history : History) → IsRequest request → IsFrom history → IsFrom (asked request history)
  asked_valid (Edit command) history new valid = or_before_has IsFrom history (edited command history) valid (edited_valid command history (applied command (standing_document history)) new valid)
  asked_valid Undo history new valid =
      or_before_has IsFrom history (undone history) valid (unless_open_valid history.group _
      (cond_both (history.present == history.floor) (Err NothingToUndo) (Ok (at_point (history.present - 1) history)) (λ answer. IfOk answer IsFrom) (λ _. tt) (λ _. at_point_valid (history.present - 1) history valid)))
  asked_valid Redo history new valid =
      or_before_has IsFrom history (redone history) valid (unless_open_valid history.group _
      (cond_both (history.present == length history.steps) (Err NothingToRedo) (Ok (at_point (history.present + 1) history)) (λ answer. IfOk answer IsFrom) (λ _. tt) (λ _. at_point_valid (history.present + 1) history valid)))
  asked_valid (SetMark name) history new valid =
      let marks = bound name history.present history.marks in
      or_before_has IsFrom history (marked name history) valid (unless_open_valid history.group _
      (cond_both (is_some (point_of name history.marks) || nat_lt (length history.marks) MAX_MARKS) (Ok (with_marks marks history)) (Err TooManyMarks) (λ answer. IfOk answer IsFrom) (λ _. with_marks_valid marks history valid) (λ _. tt)))
  asked_valid (TakeMark name) history new valid =
      let marks = unbound name history.marks in
      or_before_has IsFrom history (unmarked name history) valid (unless_open_valid history.group _
      (cond_both (is_some (point_of name history.marks)) (Ok (with_marks marks history)) (Err NoMark) (λ answer. IfOk answer IsFrom) (λ _. with_marks_valid marks history valid) (λ _. tt)))
  asked_valid (GoBack name) history new valid = or_before_has IsFrom history (gone_back name history) valid (unless_open_valid history.group (gone_to (point_of name history.marks) history) (gone_valid (point_of name history.marks) history valid))
  asked_valid Begin history new valid = or_before_has IsFrom history (opened history) valid (unless_open_valid history.group (Ok (with_group (Some []) history)) (with_group_valid (Some []) history tt valid))
  asked_valid End history new valid = or_before_has IsFrom history (closed history) valid (ended_valid history.group history valid.commands.group valid)
  asked_valid Cancel history new valid =
      or_before_has IsFrom history (cancelled history) valid
      (cond_both (is_some history.group) (Ok (with_group None history)) (Err NoGroup) (λ answer. IfOk answer IsFrom) (λ _. with_group_valid None history tt valid) (λ _. tt))

pub begun_valid : (document : Document) (depth : ℕ) → HasCommands (begun document depth)
begun_valid document depth = record { steps = tt; group = tt }

pub stays_valid : StaysValid
stays_valid = (begun_valid, λ request history new valid. (asked_valid history.start request history new (record { began = refl; commands = valid })).commands)

-- After any script the tile is the one at the start with the standing commands carried out in order.
use Rattle.std.proofs.Common.{◌≡◌, ℕ, zero, suc, ◌+◌, ◌-◌, ◌==◌, ◌||◌, nat_lt, is_some, if◌then◌else◌, Bool, List, [], ◌∷◌, ◌++◌, length, take, Option, Some, None, Result, Ok, Err, IfOk, refl, sym, ap, subst, ◌∙◌, inl, inr}
use Rattle.std.proofs.lemmas.Bool.{cases_Bool}
use Rattle.mvt_document.specs.Plain.{Document}
use Rattle.mvt_meaning.specs.Command.{Command}
use Rattle.mvt_meaning.specs.Meaning.{applied}
use Rattle.mvt_meaning.specs.declared.refusal.Refusal.{Refusal}
use Rattle.mvt_history_steps.specs.Marks.{Mark, point_of, bound, unbound}
use Rattle.mvt_history_steps.specs.History.{History, IsSound, begun, after_all, after_steps, present_document, commands_in, standing_document, at_point, with_marks, with_group, with_step, with_command, edited_to, edited, unless_open, undone, redone, marked, unmarked, gone_to, gone_back, opened, ended, closed, cancelled}
use Rattle.mvt_meaning.specs.Requests.{HistoryRequest, Edit, Undo, Redo, SetMark, TakeMark, GoBack, Begin, End, Cancel}
use Rattle.mvt_history_steps.specs.Requests.{asked}
use Rattle.mvt_history_steps.proofs.Sound.{or_before_has}
use Rattle.mvt_history_steps.specs.declared.TheConstants.{MAX_MARKS}
use Rattle.mvt_history_steps.specs.declared.error.HistoryError.{HistoryError}
use Rattle.mvt_history_steps.specs.declared.error.HistoryError.TheVariants.{NothingToUndo, NothingToRedo, NoMark, TooManyMarks, NoGroup}
use Rattle.mvt_history_steps.proofs.Joined.{after_accepted, commands_of, commands_of_last}
use Rattle.tile_lines.specs.Lines.{lines_of}
use Rattle.tile_course.specs.Run.{at_first, ran}
use Rattle.run_laws.specs.RunLaws.{Makes, standing_commands, IsHistoryOf, StandingCommands}
use Rattle.run_laws.proofs.LineRequests.{kept_by_lines, sound_ran}

-- ---- commands that are all accepted

-- what they make
makes_all : (document : Document) (commands : List Command) (made : Document) → Makes document commands made → made ≡ after_all commands document
makes_all document [] made makes = makes
makes_all document (command ∷ commands) made (next, accepted, makes) =
    makes_all next commands made makes ∙ ap (after_all commands) (sym (after_accepted command document next accepted))

makes_joined : (document : Document) (commands more : List Command) (between made : Document) → Makes document commands between → Makes between more made → Makes document (commands ++ more) made
makes_joined document [] more between made first second = subst (λ d. Makes d more made) first second
makes_joined document (command ∷ commands) more between made (next, accepted, first) second = (next, accepted, makes_joined next commands more between made first second)

-- those at the front, and those after them
makes_parts : (document : Document) (commands more : List Command) (made : Document) → Makes document (commands ++ more) made → Makes document commands (after_all commands document) × Makes (after_all commands document) more made
makes_parts document [] more made makes = (refl, makes)
makes_parts document (command ∷ commands) more made (next, accepted, makes) =
    let parts = makes_parts next commands more made makes in
    rw (after_accepted command document next accepted) ((next, accepted, parts.0), parts.1)

-- ---- steps whose commands are all accepted

-- the first `count` of them
makes_first : (count : ℕ) (document : Document) (steps : List (List Command)) (made : Document) → Makes document (commands_of steps) made → Makes document (commands_of (take count steps)) (after_steps (take count steps) document)
makes_first zero document steps made makes = refl
makes_first (suc count) document [] made makes = refl
makes_first (suc count) document (step ∷ steps) made makes =
    let middle = after_all step document in
    let parts = makes_parts document step (commands_of steps) made makes in
    let rest = makes_first count middle steps made parts.1 in
    makes_joined document step (commands_of (take count steps)) middle (after_steps (take count steps) middle) parts.0 rest

-- ---- a history whose commands are all accepted

-- Each of these commands is accepted, from the present point on.
abbrev FromPresent : History → List Command → Type 0
FromPresent history commands = Makes (present_document history) commands (after_all commands (present_document history))

module _ (document : Document) (depth : ℕ) where
  -- each command of a step, even of one that was undone, is accepted where it came, and so is each of the open step
  record IsMade (history : History) : Type 0 where
    start : history.start ≡ document
    keeps_depth : history.depth ≡ depth
    made : Document
    steps : Makes history.start (commands_of history.steps) made
    group : FromPresent history (commands_in history.group)

  made_at_point : (point : ℕ) (history : History) → history.group ≡ None → IsMade history → IsMade (at_point point history)
  made_at_point point history alone is_made = record { start = is_made.start; keeps_depth = is_made.keeps_depth; made = is_made.made; steps = is_made.steps; group = rw alone refl }

  made_with_marks : (marks : List Mark) (history : History) → IsMade history → IsMade (with_marks marks history)
  made_with_marks marks history is_made = record { start = is_made.start; keeps_depth = is_made.keeps_depth; made = is_made.made; steps = is_made.steps; group = is_made.group }

  made_with_group : (group : Option (List Command)) (history : History) → IsMade history → FromPresent history (commands_in group) → IsMade (with_group group history)
  made_with_group group history is_made makes = record { start = is_made.start; keeps_depth = is_made.keeps_depth; made = is_made.made; steps = is_made.steps; group = makes }

  -- the steps that stand
  standing_made : (history : History) → IsMade history → Makes history.start (commands_of (take history.present history.steps)) (present_document history)
  standing_made history is_made = makes_first history.present history.start history.steps is_made.made is_made.steps

  made_with_step : (step : List Command) (made : Document) (history : History) → IsMade history → Makes (present_document history) step made → IsMade (with_step step history)
  made_with_step step made history is_made makes =
      let prefix = take history.present history.steps in
      let all = makes_joined history.start (commands_of prefix) step (present_document history) made (standing_made history is_made) makes in
      record {
        start = is_made.start;
        keeps_depth = is_made.keeps_depth;
        made = made;
        steps = subst (λ commands. Makes history.start commands made) (sym (commands_of_last prefix step)) all;
        group = refl;
      }

  made_with_command : (command : Command) (group : Option (List Command)) (new : Document) (history : History) → IsMade history → FromPresent history (commands_in group) → applied command (after_all (commands_in group) (present_document history)) ≡ Ok new → IsMade (with_command command group history)
  made_with_command command None new history is_made makes accepted = made_with_step (command ∷ []) new history is_made (new, accepted, refl)
  made_with_command command (Some commands) new history is_made makes accepted =
      let present = present_document history in
      let more = commands ++ command ∷ [] in
      let all : Makes present more new = makes_joined present commands (command ∷ []) (after_all commands present) new makes (new, accepted, refl) in
      made_with_group (Some more) history is_made (subst (Makes present more) (makes_all present more new all) all)

  -- ---- requests

  made_unless_open : (group : Option (List Command)) (answer : Result History HistoryError) → (group ≡ None → IfOk answer IsMade) → IfOk (unless_open group answer) IsMade
  made_unless_open None answer answered = answered refl
  made_unless_open (Some commands) answer answered = tt

  made_if : (test : Bool) (first second : Result History HistoryError) → IfOk first IsMade → IfOk second IsMade → IfOk (if test then first else second) IsMade
  made_if test first second one other = elim (cases_Bool test) [ inl passed ↦ rw passed one | inr failed ↦ rw failed other ]

  made_edited_to : (command : Command) (history : History) (made : Result Document Refusal) → applied command (standing_document history) ≡ made → IsMade history → IfOk (edited_to command history made) IsMade
  made_edited_to command history (Ok new) accepted is_made = made_with_command command history.group new history is_made is_made.group accepted
  made_edited_to command history (Err refusal) accepted is_made = tt

  made_undone : (history : History) → IsMade history → IfOk (undone history) IsMade
  made_undone history is_made =
      let test = history.present == history.floor in
      let back : Result History HistoryError = Ok (at_point (history.present - 1) history) in
      let none : Result History HistoryError = Err NothingToUndo in
      made_unless_open history.group (if test then none else back) (λ alone. made_if test none back tt (made_at_point (history.present - 1) history alone is_made))

  made_redone : (history : History) → IsMade history → IfOk (redone history) IsMade
  made_redone history is_made =
      let test = history.present == length history.steps in
      let on : Result History HistoryError = Ok (at_point (history.present + 1) history) in
      let none : Result History HistoryError = Err NothingToRedo in
      made_unless_open history.group (if test then none else on) (λ alone. made_if test none on tt (made_at_point (history.present + 1) history alone is_made))

  made_marking : (test : Bool) (error : HistoryError) (marks : List Mark) (history : History) → IsMade history → IfOk (unless_open history.group (if test then Ok (with_marks marks history) else Err error)) IsMade
  made_marking test error marks history is_made =
      let set : Result History HistoryError = Ok (with_marks marks history) in
      let none : Result History HistoryError = Err error in
      made_unless_open history.group (if test then set else none) (λ alone. made_if test set none (made_with_marks marks history is_made) tt)

  made_gone_to : (found : Option ℕ) (history : History) → history.group ≡ None → IsMade history → IfOk (gone_to found history) IsMade
  made_gone_to None history alone is_made = tt
  made_gone_to (Some point) history alone is_made = made_at_point point history alone is_made

  made_gone_back : (name : List ℕ) (history : History) → IsMade history → IfOk (gone_back name history) IsMade
  made_gone_back name history is_made =
      let found = point_of name history.marks in
      made_unless_open history.group (gone_to found history) (λ alone. made_gone_to found history alone is_made)

  made_opened : (history : History) → IsMade history → IfOk (opened history) IsMade
  made_opened history is_made = made_unless_open history.group (Ok (with_group (Some []) history)) (λ alone. made_with_group (Some []) history is_made refl)

  made_ended : (group : Option (List Command)) (history : History) → IsMade history → FromPresent history (commands_in group) → IfOk (ended group history) IsMade
  made_ended None history is_made makes = tt
  made_ended (Some []) history is_made makes = made_with_group None history is_made refl
  made_ended (Some (command ∷ commands)) history is_made makes =
      made_with_step (command ∷ commands) (after_all (command ∷ commands) (present_document history)) history is_made makes

  made_cancelled : (history : History) → IsMade history → IfOk (cancelled history) IsMade
  made_cancelled history is_made = made_if (is_some history.group) (Ok (with_group None history)) (Err NoGroup) (made_with_group None history is_made refl) tt

  made_asked : (request : HistoryRequest) (history : History) → IsMade history → IsMade (asked request history)
  made_asked (Edit command) history is_made =
      or_before_has IsMade history (edited command history) is_made (made_edited_to command history (applied command (standing_document history)) refl is_made)
  made_asked Undo history is_made = or_before_has IsMade history (undone history) is_made (made_undone history is_made)
  made_asked Redo history is_made = or_before_has IsMade history (redone history) is_made (made_redone history is_made)
  made_asked (SetMark name) history is_made =
      let room = is_some (point_of name history.marks) || nat_lt (length history.marks) MAX_MARKS in
      or_before_has IsMade history (marked name history) is_made (made_marking room TooManyMarks (bound name history.present history.marks) history is_made)
  made_asked (TakeMark name) history is_made =
      let there = is_some (point_of name history.marks) in
      or_before_has IsMade history (unmarked name history) is_made (made_marking there NoMark (unbound name history.marks) history is_made)
  made_asked (GoBack name) history is_made = or_before_has IsMade history (gone_back name history) is_made (made_gone_back name history is_made)
  made_asked Begin history is_made = or_before_has IsMade history (opened history) is_made (made_opened history is_made)
  made_asked End history is_made = or_before_has IsMade history (closed history) is_made (made_ended history.group history is_made is_made.group)
  made_asked Cancel history is_made = or_before_has IsMade history (cancelled history) is_made (made_cancelled history is_made)

  made_begun : IsMade (begun document depth)
  made_begun = record { start = refl; keeps_depth = refl; made = document; steps = refl; group = refl }

  is_history : (history : History) → IsMade history → IsSound history → IsHistoryOf document depth history
  is_history history is_made sound =
      let standing = commands_of (take history.present history.steps) in
      let all = makes_joined history.start standing (commands_in history.group) (present_document history) (standing_document history) (standing_made history is_made) is_made.group in
      record {
        start = is_made.start;
        keeps_depth = is_made.keeps_depth;
        sound = sound;
        makes = subst (λ d. Makes d (standing_commands history) (standing_document history)) is_made.start all;
      }

-- ---- after any script

pub standing_commands_make : StandingCommands
standing_commands_make document options script some =
    let depth = options.depth in
    let is_made = kept_by_lines (IsMade document depth) (λ request history valid. made_asked document depth request history) options.strict (at_first document depth) (lines_of script) (made_begun document depth) in
    is_history document depth (ran document options script).history is_made (sound_ran document options script some)

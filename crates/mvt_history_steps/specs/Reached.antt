-- Where the changes that are kept lead, and how much they hold.
use Rattle.std.specs.Prelude.{◌≡◌, ℕ, zero, suc, ◌+◌, ◌*◌, ◌≤◌, List, [], ◌∷◌, map, length, get_or, take, Option, Some, None}
use Rattle.mvt_document.specs.Plain.{Document}
use Rattle.mvt_change.specs.Changes.{Change, Fits, go, turn, weight}
use Rattle.mvt_meaning.specs.Command.{Command}
use Rattle.mvt_meaning.specs.Meaning.{after}
use Rattle.mvt_meaning.specs.Weights.{put_by, taken_by}
use Rattle.mvt_history_steps.specs.History.{after_all, after_steps}

-- ---- what commands take out and put in, each on the document that it meets

-- how many bytes commands take out, each from the document that it meets
abbrev pub all_taken_by : List Command → Document → ℕ
all_taken_by [] document = 0
all_taken_by (command ∷ commands) document = taken_by command document + all_taken_by commands (after command document)

-- how many bytes commands put in, each into the document that it meets
abbrev pub all_put_by : List Command → Document → ℕ
all_put_by [] document = 0
all_put_by (command ∷ commands) document = put_by command document + all_put_by commands (after command document)

-- twice the number of steps that the changes of these commands may have: two for each command, and one for each byte
-- that they take out or put in
abbrev pub step_allowance : List Command → Document → ℕ
step_allowance commands document = 2 * length commands + all_taken_by commands document + all_put_by commands document

-- ---- one change

-- the change leads from one document to another, holds at most `held` bytes, and once turned at most `turned`; twice
-- its steps are within the allowance
pub record Leads (change : Change) (from to : Document) (held turned allowance : ℕ) : Type 0 where
  pub fits : Fits change from
  pub leads : go change from ≡ to
  pub holds : weight change ≤ held
  pub becomes : weight (turn change from) ≤ turned
  pub few_steps : 2 * length change ≤ allowance

-- the change leads from the document after the step to the one before it, holds no more bytes than the step took out,
-- and once turned no more than it put in; its steps are at most one for each command of the step plus half as many as
-- these bytes together
abbrev pub LeadsBack : List Command → Document → Change → Type 0
LeadsBack step before change = Leads change (after_all step before) before (all_taken_by step before) (all_put_by step before) (step_allowance step before)

-- the change leads the other way, and holds and becomes what one that leads back becomes and holds
abbrev pub LeadsOn : List Command → Document → Change → Type 0
LeadsOn step before change = Leads change before (after_all step before) (all_put_by step before) (all_taken_by step before) (step_allowance step before)

-- ---- lists of changes, the next one first

-- the changes lead back over one step each, from this point down
abbrev pub LeadBack : List (List Command) → Document → ℕ → List Change → Type 0
LeadBack steps start point [] = Unit {0}
LeadBack steps start zero (change ∷ changes) = ⊥
LeadBack steps start (suc point) (change ∷ changes) = LeadsBack (get_or steps point []) (after_steps (take point steps) start) change × LeadBack steps start point changes

-- the changes lead on over one step each, from this point up
abbrev pub LeadOn : List (List Command) → Document → ℕ → List Change → Type 0
LeadOn steps start point [] = Unit {0}
LeadOn steps start point (change ∷ changes) = LeadsOn (get_or steps point []) (after_steps (take point steps) start) change × LeadOn steps start (suc point) changes

-- each command as a step of its own
abbrev pub singles : List Command → List (List Command)
singles commands = map (λ command. command ∷ []) commands

-- the changes lead out of an open step of these commands, back to this document, one for each command; there are none
-- where no step is open
abbrev pub LeadOut : Option (List Command) → Document → Option (List Change) → Type 0
LeadOut None document None = Unit {0}
LeadOut (Some commands) document (Some changes) = (length changes ≡ length commands) × LeadBack (singles commands) document (length commands) changes
LeadOut group document pending = ⊥

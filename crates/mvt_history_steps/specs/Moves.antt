-- Steps from one list of changes to another, over a document.
use Rattle.std.specs.Prelude.{◌≡◌, ℕ, zero, suc, ◌+◌, List, [], ◌∷◌, Result, Ok, Err}
use Rattle.mvt_document.specs.Plain.{Document}
use Rattle.mvt_change.specs.Changes.{Change, go, turn}
use Rattle.mvt_history_steps.specs.History.{History, undone, redone}
use Rattle.mvt_history_steps.specs.Standing.{Standing}
use Rattle.mvt_history_steps.specs.declared.steps.Direction.{Direction}
use Rattle.mvt_history_steps.specs.declared.steps.Direction.TheVariants.{Undo, Redo}
use Rattle.mvt_history_steps.specs.declared.error.HistoryError.{HistoryError}

-- a document, the changes that lie ahead, and those that lead back, each list with the next one first
pub record Track : Type 0 where
  pub document : Document
  pub ahead : List Change
  pub behind : List Change

-- the walk after the next change ahead, where there is one: it is carried out, and once turned it leads back
abbrev pub step_over : List Change → Track → Track
step_over [] walk = walk
step_over (change ∷ ahead) walk = record { document = go change walk.document; ahead = ahead; behind = turn change walk.document ∷ walk.behind }

-- the walk after one step
abbrev pub stepped : Track → Track
stepped walk = step_over walk.ahead walk

-- the walk after a number of steps
abbrev pub walked : ℕ → Track → Track
walked zero walk = walk
walked (suc count) walk = stepped (walked count walk)

-- ---- in a direction, undo or redo

-- what a session walks over in a direction
abbrev pub walk_in : Direction → Standing → Track
walk_in Undo session = record { document = session.document; ahead = session.undo; behind = session.redo }
walk_in Redo session = record { document = session.document; ahead = session.redo; behind = session.undo }

-- the session where its walk in a direction has come to this
abbrev pub with_walk : Direction → Track → Standing → Standing
with_walk Undo walk session = record session { document = walk.document; undo = walk.ahead; redo = walk.behind }
with_walk Redo walk session = record session { document = walk.document; undo = walk.behind; redo = walk.ahead }

-- the session after a number of steps in a direction
abbrev pub moved_along : Direction → ℕ → Standing → Standing
moved_along direction count session = with_walk direction (walked count (walk_in direction session)) session

-- `count` steps in the direction lead from one point to another
abbrev pub LeadsAlong : Direction → ℕ → ℕ → ℕ → Type 0
LeadsAlong Undo count from to = to + count ≡ from
LeadsAlong Redo count from to = from + count ≡ to

-- the history after the next step in a direction, or its refusal
abbrev pub gone : Direction → History → Result History HistoryError
gone Undo history = undone history
gone Redo history = redone history

-- ---- an open step

-- how many changes were taken: all where the answer is `Ok`, else as many as the error says
abbrev pub taken_of : Result (Unit {0}) ℕ → ℕ → ℕ
taken_of (Ok done) all = all
taken_of (Err taken) all = taken

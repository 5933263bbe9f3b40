-- What steps make of a document of the program, with the room of its lists, and when no list has to grow.
use Rattle.std.specs.Prelude.{◌≡◌, ℕ, ◌+◌, ◌-◌, ◌≤◌, Bool, List, [], ◌∷◌, length, Option, Some, IsTrue, if◌then◌else◌, slice_index_or}
use Rattle.std.specs.Option.{IsSomeAnd, option_map_or}
use Rattle.mvt_document.specs.Held.{Held}
use Rattle.mvt_document.specs.Splicing.{part, splice, moved}
use Rattle.mvt_document.specs.Lists.{CanMove}
use Rattle.mvt_document.specs.declared.document.Document.{Document}
use Rattle.mvt_change.specs.declared.change.Step.{Step}
use Rattle.mvt_change.specs.ChangeStands.{Action, SpliceAt, MoveAt, action_of}
use Rattle.mvt_change.specs.HeldLists.{HeldItemAt, held_list_at, change_held_list}
use Rattle.mvt_change.specs.Room.{capacity, KeepsList}

-- ---- one list

-- the list with `taken` items from `index` exchanged for others; it grows no more than it has to
abbrev pub exchanged : {T : Type 0} → ℕ → ℕ → Held T → Held T → Held T
exchanged index taken put list =
    let items = splice index taken put.items list.items in
    record { items = items; room = capacity list - length items }

-- the list with an item moved, and the same room
abbrev pub held_moved : {T : Type 0} → ℕ → ℕ → Held T → Held T
held_moved from to list = record list { items = moved from to list.items }

-- the items are there, and each of the two lists has room for what it gets
pub record HasRoom {T : Type 0} (index taken : ℕ) (put list : Held T) : Type 0 where
  pub within : index + taken ≤ length list.items
  pub comes : length put.items ≤ list.room + taken
  pub goes : taken ≤ capacity put

-- both positions are positions of items
abbrev pub CanMoveHeld : {T : Type 0} → ℕ → ℕ → Held T → Type 0
CanMoveHeld from to list = CanMove from to list.items

-- `taken` items from `index` of the list, where there is one; else none
abbrev pub held_taken_out : {T : Type 0} → ℕ → ℕ → Option (Held T) → List T
held_taken_out index taken list = option_map_or (λ found. part index taken found.items) list []

-- the list of items to put after an exchange: it has what was taken out, if the exchange was done, else what it had; it
-- has no less capacity; and the exchange was done if there was room
pub record TakesOut {T : Type 0} (index taken : ℕ) (done : Bool) (list : Option (Held T)) (old new : Held T) : Type 0 where
  pub items : new.items ≡ (if done then held_taken_out index taken list else old.items)
  pub room : capacity old ≤ capacity new
  pub succeeds : IsSomeAnd list (HasRoom index taken old) → IsTrue done

-- there are `count` items of the list from `index`
abbrev pub HasHeldPart : {T : Type 0} → ℕ → ℕ → Held T → Type 0
HasHeldPart index count list = index + count ≤ length list.items

-- a list is exchanged with the first of those to put, if the exchange was done, and is kept if not
pub record ExchangesFirst {T : Type 0} (Keeps : T → T → Type 0) (index taken : ℕ) (done : Bool) (list made : Held T) (puts left : List (Held T)) : Type 0 where
  pub kept : (other : Held T) → KeepsList Keeps (if done then exchanged index taken (slice_index_or puts 0 other) list else list) made
  pub given : (other : Held T) → TakesOut index taken done (Some list) (slice_index_or puts 0 other) (slice_index_or left 0 other)

-- ---- a document

-- the document after an action, with the room of its lists
abbrev pub go_action : Action → Document → Document
go_action (SpliceAt place index taken put) document = change_held_list place (exchanged index taken put) document
go_action (MoveAt place from to) document = change_held_list place (held_moved from to) document

-- the document after a step, with the room of its lists
abbrev pub go_held_step : Step → Document → Document
go_held_step step document = go_action (action_of step) document

-- the document after steps, one after the other
abbrev pub go_held : List Step → Document → Document
go_held [] document = document
go_held (step ∷ steps) document = go_held steps (go_held_step step document)

-- the list exists, and so do the items that are taken out or move, and the position that one moves to
abbrev pub FindsAction : Action → Document → Type 0
FindsAction (SpliceAt place index taken put) document = IsSomeAnd (held_list_at place document) (HasHeldPart index taken)
FindsAction (MoveAt place from to) document = IsSomeAnd (held_list_at place document) (CanMoveHeld from to)

-- the action can be carried out, and no list has to grow
abbrev pub ActionHasRoom : Action → Document → Type 0
ActionHasRoom (SpliceAt place index taken put) document = IsSomeAnd (held_list_at place document) (HasRoom index taken put)
ActionHasRoom (MoveAt place from to) document = IsSomeAnd (held_list_at place document) (CanMoveHeld from to)

-- each step can be carried out on what those before it made, and no list has to grow
abbrev pub HaveRoom : List Step → Document → Type 0
HaveRoom [] document = Unit {0}
HaveRoom (step ∷ steps) document = ActionHasRoom (action_of step) document × HaveRoom steps (go_held_step step document)

-- ---- what leads back

-- the items to put back are those that the list had at the place, in a list with no less capacity than that of the
-- items that were put
pub record IsBack {T : Type 0} (index taken : ℕ) (put back : Held T) (list : Option (Held T)) : Type 0 where
  pub items : back.items ≡ held_taken_out index taken list
  pub room : capacity put ≤ capacity back

-- `turned` is the action that leads back from what the first one makes of the document
abbrev pub IsTurnedAction : Action → Document → Action → Type 0
IsTurnedAction (SpliceAt place index taken put) document turned =
    (back : Held (HeldItemAt place)) × (turned ≡ SpliceAt place index (length put.items) back) × IsBack index taken put back (held_list_at place document)
IsTurnedAction (MoveAt place from to) document turned = turned ≡ MoveAt place to from

-- `turned` is the step that leads back from what the first one makes of the document
abbrev pub IsTurned : Step → Document → Step → Type 0
IsTurned step document turned = IsTurnedAction (action_of step) document (action_of turned)

-- each step turned on the document that it meets, in the same order
abbrev pub AreTurned : List Step → Document → List Step → Type 0
AreTurned [] document [] = Unit {0}
AreTurned (step ∷ steps) document (next ∷ turned) = IsTurned step document next × AreTurned steps (go_held_step step document) turned
AreTurned steps document turned = ⊥

-- The change that carries out a command.
use Rattle.std.specs.Prelude.{◌≡◌, ◌⊎◌, ◌+◌, ◌*◌, ◌≤◌, Bool, true, false, length, Result, Ok, Err}
use Rattle.mvt_document.specs.Plain.{Document}
use Rattle.mvt_change.specs.Changes as plain
use Rattle.mvt_change.specs.Changes.{Fits, go, turn, weight}
use Rattle.mvt_change.specs.ChangeStands.{change_of}
use Rattle.mvt_change.specs.declared.change.Change.{Change}
use Rattle.mvt_meaning.specs.Command.{Command, RenameLayer, MoveLayer, DropLayer, InsertFeature, MoveFeature, DropFeature, SetId}
use Rattle.mvt_meaning.specs.Meaning.{applied}
use Rattle.mvt_meaning.specs.Memory.{AsksForMemory}
use Rattle.mvt_meaning.specs.Weights.{put_by, taken_by}
use Rattle.mvt_meaning.specs.declared.refusal.Refusal.{Refusal}
use Rattle.mvt_meaning.specs.declared.refusal.Refusal.TheVariants.{NoMemory}

-- whether one step carries the command out: those that rename, move or drop a layer, insert, move or drop a feature, or
-- set an id
abbrev pub is_one_step : Command → Bool
is_one_step (RenameLayer choice name) = true
is_one_step (MoveLayer choice index) = true
is_one_step (DropLayer choice) = true
is_one_step (InsertFeature choice index geometry) = true
is_one_step (MoveFeature choice feature index) = true
is_one_step (DropFeature choice feature) = true
is_one_step (SetId choice feature id) = true
is_one_step command = false

-- the change fits the document and turns it into what the command makes of it; it puts no more bytes than the command
-- puts in, what leads back puts no more than the command takes out, and it has at most one step plus half as many as
-- these bytes together, and exactly one where one carries the command out
pub record IsPrepared (command : Command) (document : Document) (change : plain.Change) : Type 0 where
  pub fits : Fits change document
  pub means : applied command document ≡ Ok (go change document)
  pub puts : weight change ≤ put_by command document
  pub takes : weight (turn change document) ≤ taken_by command document
  pub steps : 2 * length change ≤ 2 + taken_by command document + put_by command document
  pub one : is_one_step command ≡ true → length change ≡ 1

-- the change of the command, or its refusal; out of memory, and no other refusal, may come in place of either, where the
-- command asks for memory
abbrev pub Prepares : Command → Document → Result Change Refusal → Type 0
Prepares command document (Ok change) = IsPrepared command document (change_of change)
Prepares command document (Err refusal) = ((refusal ≡ NoMemory) × AsksForMemory command document) ⊎ (applied command document ≡ Err refusal)

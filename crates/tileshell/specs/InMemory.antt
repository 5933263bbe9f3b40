-- What an edit of a tile in memory returns.
use Rattle.std.specs.Prelude.{◌≡◌, ◌≢◌, ◌⊎◌, ◌↔◌, ℕ, ◌<◌, ◌≤◌, Bool, List, [], ◌++◌, length, take, Some, None, IsSome, IsTrue, if◌then◌else◌}
use Rattle.std.specs.declared.option.Option.{Option}
use Rattle.std.specs.declared.vec.Vec.{Vec}
use Rattle.std.specs.declared.alloc.Global.{Global}
use Rattle.mvt_document.specs.Opens.{OpensAs, OpensAsNothing}
use Rattle.mvt_document.specs.Plain.{Document}
use Rattle.tile_lines.specs.Lines.{whole_lines}
use Rattle.tile_device.specs.Seen.{Intake}
use Rattle.tile_course.specs.Course.{Course, Ends, IsFaultOf}
use Rattle.tile_course.specs.Headline.{outcome_of}
use Rattle.tile_course.specs.Replies.{NoneIsOutOfMemory}
use Rattle.tile_course.specs.Run.{Progress, after_lines, at_first, is_over, ran, tile_of}
use Rattle.tileshell.specs.declared.in_memory.Edited.{Edited}
use Rattle.tile_course.specs.declared.outcome.DeviceName.{DeviceName}
use Rattle.tile_course.specs.declared.outcome.DeviceName.TheVariants as devices
use Rattle.tile_course.specs.declared.outcome.Options.{Options}
use Rattle.tile_course.specs.declared.outcome.Outcome.{Outcome}
use Rattle.tile_course.specs.declared.outcome.Outcome.TheVariants as outcomes
use Rattle.tile_course.specs.declared.outcome.TileFault.{TileFault}
use Rattle.tile_course.specs.declared.limits.TheConstants.{MAX_SCRIPT}

-- what is handed out where the run ended with this outcome: the tile where it was written; a sink in memory fails only
-- where memory runs out, so its fault becomes `NoMemory`
abbrev pub handed_out : Outcome → Vec ℕ Global → Vec ℕ Global → Edited
handed_out outcomes.Done replies out = record { outcome = outcomes.Done; replies = replies; tile = Some out }
handed_out outcomes.SomeRefused replies out = record { outcome = outcomes.SomeRefused; replies = replies; tile = Some out }
handed_out (outcomes.Device devices.Replies) replies out = record { outcome = outcomes.NoMemory; replies = replies; tile = None }
handed_out (outcomes.Device devices.Out) replies out = record { outcome = outcomes.NoMemory; replies = replies; tile = None }
handed_out outcome replies out = record { outcome = outcome; replies = replies; tile = None }

-- the bytes of the edited tile, where there is one
abbrev pub bytes_in : Option (Vec ℕ Global) → Option (List ℕ)
bytes_in None = None
bytes_in (Some tile) = Some tile.items

-- what was read of these bytes: a prefix, which is all of them where the intake is whole, without trouble
pub record IsReadOf (bytes : List ℕ) (intake : Intake) : Type 0 where
  pub left : List ℕ
  pub is_prefix : bytes ≡ intake.bytes ++ left
  pub whole : IsTrue intake.is_whole → left ≡ []
  pub untroubled : intake.trouble ≡ None

-- whatever growths were refused: there is a course of what was read of the tile and of the script, replied and written
-- that ends with an outcome (`Ends`), and the edit is what is then handed out (`handed_out`)
pub record IsRunInMemory (options : Options) (tile script : List ℕ) (edited : Edited) : Type 0 where
  pub outcome : Outcome
  pub course : Course
  pub ends : Ends options outcome course
  pub tile_read : IsReadOf tile course.tile
  pub script_read : IsReadOf script course.script
  pub out : Vec ℕ Global
  pub written : out.items ≡ course.out.bytes
  pub replies : edited.replies.items ≡ course.replies.bytes
  pub handed : edited ≡ handed_out outcome edited.replies out

-- the bytes of the standing document, or none where a strict run is over
abbrev pub tile_given : Bool → Progress → Option (List ℕ)
tile_given strict progress = if is_over strict progress then None else Some (tile_of progress)

-- the outcome, the replies and the tile are those of the script on the document
pub record IsEditOf (options : Options) (document : Document) (script : List ℕ) (edited : Edited) : Type 0 where
  pub outcome : edited.outcome ≡ outcome_of options.strict (ran document options script)
  pub replies : edited.replies.items ≡ (ran document options script).replies
  pub tile : bytes_in edited.tile ≡ tile_given options.strict (ran document options script)

-- for every tile that opens, as the document, and every script of at most 16,777,216 bytes, where the outcome is not
-- `NoMemory` and no reply is 60 or 54: the edit is that of the script on the document
abbrev pub EditsTile : Options → List ℕ → List ℕ → Edited → Type 0
EditsTile options tile script edited =
    (document : Document) → OpensAs tile document → length script ≤ MAX_SCRIPT → edited.outcome ≢ outcomes.NoMemory → NoneIsOutOfMemory edited.replies.items
    → IsEditOf options document script edited

-- the outcome is that the tile is refused, for what is wrong with it; there are no replies and no tile
pub record IsRefusal (tile : List ℕ) (edited : Edited) : Type 0 where
  pub fault : TileFault
  pub outcome : edited.outcome ≡ outcomes.TileRefused fault
  pub is_fault : IsFaultOf fault tile
  pub no_replies : edited.replies.items ≡ []
  pub no_tile : edited.tile ≡ None

-- for every tile that does not open as a document, where the outcome is not `NoMemory`: the tile is refused
abbrev pub RefusesFile : List ℕ → Edited → Type 0
RefusesFile tile edited = OpensAsNothing tile → edited.outcome ≢ outcomes.NoMemory → IsRefusal tile edited

-- the progress after the lines whose line feeds are among the first 16,777,216 bytes of a script, on a document
abbrev pub ran_cut : Document → Options → List ℕ → Progress
ran_cut document options script = after_lines options.strict (at_first document options.depth) (whole_lines (take MAX_SCRIPT script))

-- the outcome names the script, or is `StrictStop` where the run is over at one of its whole lines; the replies are
-- those of these lines, and there is no tile
pub record IsCutOff (options : Options) (document : Document) (script : List ℕ) (edited : Edited) : Type 0 where
  pub outcome : edited.outcome ≡ (if is_over options.strict (ran_cut document options script) then outcomes.StrictStop else outcomes.Device devices.Script)
  pub replies : edited.replies.items ≡ (ran_cut document options script).replies
  pub no_tile : edited.tile ≡ None

-- for every tile that opens, as the document, and every longer script, where the outcome is not `NoMemory` and no reply
-- is 60 or 54: the edit is cut off
abbrev pub CutsLongScript : Options → List ℕ → List ℕ → Edited → Type 0
CutsLongScript options tile script edited =
    (document : Document) → OpensAs tile document → MAX_SCRIPT < length script → edited.outcome ≢ outcomes.NoMemory → NoneIsOutOfMemory edited.replies.items
    → IsCutOff options document script edited

-- the outcome names no device but the script, and that only where it has more than 16,777,216 bytes
abbrev pub NamesLongScript : List ℕ → Edited → Type 0
NamesLongScript script edited = (name : DeviceName) → edited.outcome ≡ outcomes.Device name → (name ≡ devices.Script) × (MAX_SCRIPT < length script)

-- there is a tile exactly where the outcome is `Done` or `SomeRefused`
abbrev pub GivesTile : Edited → Type 0
GivesTile edited = IsSome edited.tile ↔ ((edited.outcome ≡ outcomes.Done) ⊎ (edited.outcome ≡ outcomes.SomeRefused))

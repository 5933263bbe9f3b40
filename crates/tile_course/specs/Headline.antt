-- The headline: what a run does where no device and no growth fails it.
use Rattle.std.specs.Prelude.{◌≡◌, ◌≢◌, ℕ, Bool, false, ◌+◌, ◌-◌, ◌^◌, ◌≤◌, List, [], ◌∷◌, ◌++◌, length, IsTrue, Some, if◌then◌else◌}
use Rattle.std.specs.declared.option.Option.{Option}
use Rattle.std.specs.Io.{appended_bytes}
use Rattle.std.specs.Io.KnownBytes.{Appends}
use Rattle.mvt_document.specs.declared.TheConstants.{MAX_FILE}
use Rattle.mvt_document.specs.Plain.{Document}
use Rattle.mvt_document.specs.Opens.{OpensAs, OpensAsNothing}
use Rattle.tile_course.specs.declared.limits.TheConstants.{MAX_RETRIES, MAX_SCRIPT}
use Rattle.tile_course.specs.declared.outcome.Options.{Options}
use Rattle.tile_device.specs.declared.device.Source.{Ghosts as SourceMembers}
use Rattle.tile_device.specs.declared.device.Sink.{Ghosts as SinkMembers}
use Rattle.tile_course.specs.declared.outcome.Outcome.{Outcome}
use Rattle.tile_course.specs.declared.outcome.Outcome.TheVariants as outcomes
use Rattle.tile_course.specs.declared.outcome.DeviceName.TheVariants as devices
use Rattle.tile_course.specs.declared.outcome.TileFault.{TileFault}
use Rattle.tile_course.specs.Course.{Course, Ends, IsPatient, OpensAgain, IsFaultOf}
use Rattle.tile_course.specs.Outcomes.{edited_outcome}
use Rattle.tile_course.specs.Replies.{NoneIsOutOfMemory}
use Rattle.tile_lines.specs.Lines.{lines_of}
use Rattle.tile_course.specs.Run.{Progress, after_lines, is_over, ran, tile_of}
use Rattle.tile_device.specs.Seen.{Seen, source_at, sink_at, Supplies, Receives}

-- the four devices of a run at one moment
pub record Devices : Type 0 where
  pub tile : Seen
  pub script : Seen
  pub replies : Seen
  pub out : Seen

-- the four devices of a run at one moment, by what each tells of itself
abbrev pub devices_at : {A B C D : Type 0} → SourceMembers A → SourceMembers B → SinkMembers C → SinkMembers D → A → B → C → D → Devices
devices_at a b c d tile script replies out = record {
  tile = source_at a tile;
  script = source_at b script;
  replies = sink_at c replies;
  out = sink_at d out;
}

-- the counts of interruptions and failures of a device are at most 2^63, far below where they stop
pub record HasLowCounts (device : Seen) : Type 0 where
  pub interruptions : device.interruptions ≤ 2 ^ 63
  pub failures : device.failures ≤ 2 ^ 63

-- the device began with low counts, tells its bytes at the end, and no call of it failed
pub record Serves (before after : Seen) : Type 0 where
  pub tells : IsTrue after.tells
  pub low : HasLowCounts before
  pub unfailing : after.failures ≡ before.failures

-- how many calls of a device were interrupted
abbrev pub interruptions_between : Seen → Seen → ℕ
interruptions_between before after = after.interruptions - before.interruptions

-- how many calls were interrupted, over all devices
abbrev pub all_interruptions : Devices → Devices → ℕ
all_interruptions before after =
    interruptions_between before.tile after.tile + interruptions_between before.script after.script
    + interruptions_between before.replies after.replies + interruptions_between before.out after.out

-- all four devices serve (`Serves`), and over all of them at most 1,000 calls were interrupted
pub record AllServe (before after : Devices) : Type 0 where
  pub tile : Serves before.tile after.tile
  pub script : Serves before.script after.script
  pub replies : Serves before.replies after.replies
  pub out : Serves before.out after.out
  pub patient : all_interruptions before after ≤ MAX_RETRIES

-- the replies written between two moments are known, and none of them is 60 or 54, out of memory (`NoneIsOutOfMemory`)
abbrev pub WritesNoneOutOfMemory : Option (List ℕ) → Option (List ℕ) → Type 0
WritesNoneOutOfMemory (Some old) (Some new) = NoneIsOutOfMemory (appended_bytes old new)
WritesNoneOutOfMemory old new = ⊥

-- the outcome of a run that comes to this progress: `StrictStop` where a strict run is over, else `SomeRefused` where a
-- line was refused, else `Done`
abbrev pub outcome_of : Bool → Progress → Outcome
outcome_of strict progress = if is_over strict progress then outcomes.StrictStop else edited_outcome progress.any_refused

-- the bytes written of the tile: those of the standing document, or none where a strict run is over
abbrev pub tile_written : Bool → Progress → List ℕ
tile_written strict progress = if is_over strict progress then [] else tile_of progress

-- the outcome, the replies and what is written to `out` are those of the script on the document; and the script goes on
-- from each prefix that ends with a line feed
pub record IsRunOf (options : Options) (document : Document) (script : List ℕ) (before after : Devices) (outcome : Outcome) : Type 0 where
  pub ends : outcome ≡ outcome_of options.strict (ran document options script)
  pub replies : Appends before.replies.bytes after.replies.bytes (ran document options script).replies
  pub out : Appends before.out.bytes after.out.bytes (tile_written options.strict (ran document options script))
  pub prefixes : (prefix more : List ℕ) → script ≡ prefix ++ 10 ∷ more → ran document options script ≡ after_lines options.strict (ran document options (prefix ++ 10 ∷ [])) (lines_of more)

-- the tile opens, as the document; the script has at most 16,777,216 bytes; all devices serve, the replies are known
-- and none is 60 or 54, and the outcome is not `NoMemory`
pub record Premises (document : Document) (script : List ℕ) (before after : Devices) (outcome : Outcome) : Type 0 where
  pub file : List ℕ
  pub tile : before.tile.bytes ≡ Some file
  pub opens : OpensAs file document
  pub script_is : before.script.bytes ≡ Some script
  pub within : length script ≤ MAX_SCRIPT
  pub serve : AllServe before after
  pub none_out_of_memory : WritesNoneOutOfMemory before.replies.bytes after.replies.bytes
  pub has_memory : outcome ≢ outcomes.NoMemory

-- under these premises: the outcome, the replies and what is written are those of the script on the document
abbrev pub Headline : Options → Devices → Devices → Outcome → Type 0
Headline options before after outcome =
    (document : Document) (script : List ℕ) → Premises document script before after outcome
    → IsRunOf options document script before after outcome

-- under the same premises, where a strict run is not over: the tile that is written opens again
abbrev pub WritesATile : Options → Devices → Devices → Outcome → Type 0
WritesATile options before after outcome =
    (document : Document) (script : List ℕ) → Premises document script before after outcome
    → is_over options.strict (ran document options script) ≡ false → OpensAgain (ran document options script)

-- for every tile that does not open as a document, where all devices serve and the outcome is not `NoMemory`: the
-- outcome is that the tile is refused, for what is wrong with it
abbrev pub RefusesTile : Devices → Devices → Outcome → Type 0
RefusesTile before after outcome =
    (file : List ℕ) → before.tile.bytes ≡ Some file → OpensAsNothing file → AllServe before after → outcome ≢ outcomes.NoMemory
    → (fault : TileFault) × (outcome ≡ outcomes.TileRefused fault) × IsFaultOf fault file

-- there is a course of what was read and written that ends as the outcome says and that the devices bear out; at most
-- 67,108,865 bytes of the tile and 16,777,217 of the script were read
pub record Runs (options : Options) (before after : Devices) (outcome : Outcome) : Type 0 where
  pub course : Course
  pub ends : Ends options outcome course
  pub patient : IsPatient course
  pub tile : Supplies before.tile after.tile course.tile
  pub script : Supplies before.script after.script course.script
  pub replies : Receives before.replies after.replies course.replies
  pub out : Receives before.out after.out course.out
  pub tile_within : length course.tile.bytes ≤ MAX_FILE + 1
  pub script_within : length course.script.bytes ≤ MAX_SCRIPT + 1

-- the outcomes after which `out` is as it was: all but `Done`, `SomeRefused` and a fault of `out`
abbrev pub LeavesOut : Outcome → Type 0
LeavesOut outcomes.Done = ⊥
LeavesOut outcomes.SomeRefused = ⊥
LeavesOut (outcomes.Device devices.Out) = ⊥
LeavesOut outcome = Unit {0}

-- the outcomes after which script and replies are as they were: the tile was refused, or its device is at fault
abbrev pub LeavesReplies : Outcome → Type 0
LeavesReplies (outcomes.TileRefused fault) = Unit {0}
LeavesReplies (outcomes.Device devices.Tile) = Unit {0}
LeavesReplies outcome = ⊥

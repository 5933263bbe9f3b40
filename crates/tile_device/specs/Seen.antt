-- What contracts see of a device at one moment, and what it gives or takes between two.
use Rattle.std.specs.Prelude.{◌≡◌, ℕ, ◌+◌, ◌-◌, List, [], ◌++◌, Bool, false, IsTrue, Some, None}
use Rattle.std.specs.declared.option.Option.{Option}
use Rattle.std.specs.Io.KnownBytes.{Appends, Consumes, IsAtEnd}
use Rattle.tile_device.specs.Device.{counted, interruptions_in, failures_in}
use Rattle.tile_device.specs.declared.device.Trouble.{Trouble}
use Rattle.tile_device.specs.declared.device.Trouble.TheVariants.{Interrupted}
use Rattle.tile_device.specs.declared.device.Source.{Ghosts as SourceMembers}
use Rattle.tile_device.specs.declared.device.Sink.{Ghosts as SinkMembers}

-- a device at one moment: the bytes that are left to read, or that were written, where they are known; whether it still
-- tells what its calls do to them; and its counts of interruptions and failures
pub record Seen : Type 0 where
  pub bytes : Option (List ℕ)
  pub tells : Bool
  pub interruptions : ℕ
  pub failures : ℕ

-- a source at one moment
abbrev pub source_at : {S : Type 0} → SourceMembers S → S → Seen
source_at members source = record {
  bytes = members.left source;
  tells = members.tells source;
  interruptions = members.interruptions source;
  failures = members.failures source;
}

-- a sink at one moment
abbrev pub sink_at : {S : Type 0} → SinkMembers S → S → Seen
sink_at members sink = record {
  bytes = members.written sink;
  tells = members.tells sink;
  interruptions = members.interruptions sink;
  failures = members.failures sink;
}

-- between two moments `retries` interrupted calls were made again, and then this trouble was met, or none: the counts
-- say so; a device that no longer tells its bytes never tells them again
pub record Meets (old new : Seen) (retries : ℕ) (trouble : Option Trouble) : Type 0 where
  pub interruptions : new.interruptions ≡ counted (retries + interruptions_in trouble) old.interruptions
  pub failures : new.failures ≡ counted (failures_in trouble) old.failures
  pub still_tells : IsTrue new.tells → IsTrue old.tells

-- what was read of a source: the bytes, whether they are all that it had, how many calls were made again, and the
-- trouble that ended the reading, or none
pub record Intake : Type 0 where
  pub bytes : List ℕ
  pub is_whole : Bool
  pub retries : ℕ
  pub trouble : Option Trouble

-- what was written to a sink: the bytes, how many calls were made again, and the trouble that ended the writing, or
-- none
pub record Output : Type 0 where
  pub bytes : List ℕ
  pub retries : ℕ
  pub trouble : Option Trouble

-- an intake of no bytes, with no trouble
abbrev pub nothing_read : Intake
nothing_read = record { bytes = []; is_whole = false; retries = 0; trouble = None }

-- an output of these bytes, with no trouble, and this many calls made again
abbrev pub written : ℕ → List ℕ → Output
written retries bytes = record { bytes = bytes; retries = retries; trouble = None }

-- between two moments a source gave this intake: where it still tells its bytes, they lost the prefix that was read,
-- and are at their end where the intake is whole
pub record Supplies (old new : Seen) (intake : Intake) : Type 0 where
  pub meets : Meets old new intake.retries intake.trouble
  pub bytes : IsTrue new.tells → Consumes old.bytes new.bytes intake.bytes
  pub whole : IsTrue new.tells → IsTrue intake.is_whole → IsAtEnd new.bytes

-- between two moments a sink took this output: where it still tells its bytes, they grew by those written
pub record Receives (old new : Seen) (output : Output) : Type 0 where
  pub meets : Meets old new output.retries output.trouble
  pub bytes : IsTrue new.tells → Appends old.bytes new.bytes output.bytes

-- `whole` begins with `prefix`
abbrev pub IsPrefix : List ℕ → List ℕ → Type 0
IsPrefix prefix whole = (rest : List ℕ) × (whole ≡ prefix ++ rest)

-- ---- with a budget of retries, before some calls and after them

-- the budget paid for `retries` calls that were made again; an interruption ended the calls only where none is left
pub record Pays (before after retries : ℕ) (trouble : Option Trouble) : Type 0 where
  pub spent : after + retries ≡ before
  pub last : trouble ≡ Some Interrupted → after ≡ 0

-- a source gave this intake, and the budget paid for it
pub record Reads (old new : Seen) (before after : ℕ) (intake : Intake) : Type 0 where
  pub supplies : Supplies old new intake
  pub pays : Pays before after intake.retries intake.trouble

-- a sink took this output, and the budget paid for it
pub record Writes (old new : Seen) (before after : ℕ) (output : Output) : Type 0 where
  pub receives : Receives old new output
  pub pays : Pays before after output.retries output.trouble

-- a sink was sent these bytes, and the budget paid for it: the sink took all of them, or, before this trouble, a prefix
-- of them
abbrev pub Sends : Seen → Seen → ℕ → ℕ → List ℕ → Option Trouble → Type 0
Sends old new before after bytes None = Writes old new before after (written (before - after) bytes)
Sends old new before after bytes (Some trouble) =
    (prefix : List ℕ) × IsPrefix prefix bytes × Writes old new before after (record { bytes = prefix; retries = before - after; trouble = Some trouble })

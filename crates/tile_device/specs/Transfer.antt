-- What contracts see of a reading, of one piece or up to a limit.
use Rattle.std.specs.Prelude.{◌≡◌, ℕ, ◌≤◌, List, [], false, ◌&&◌, ◌==◌, nat_lt, is_ok, Result, Ok, Err, Some, None, IfOk, length, take}
use Rattle.std.specs.declared.option.Option.{Option}
use Rattle.std.specs.declared.vec.Vec.{Vec}
use Rattle.std.specs.declared.alloc.Global.{Global}
use Rattle.tile_device.specs.Seen.{Intake}
use Rattle.tile_device.specs.declared.device.Trouble.{Trouble}
use Rattle.tile_device.specs.declared.transfer.ReadFault.{ReadFault}
use Rattle.tile_device.specs.declared.transfer.ReadFault.TheVariants.{Device, NoMemory}

-- what one reading into a buffer gave; it is the end exactly where the reading gave no byte and the buffer had room for
-- one
abbrev pub piece_of : Result ℕ Trouble → List ℕ → ℕ → Intake
piece_of (Ok n) buffer retries = record { bytes = take n buffer; is_whole = (n == 0) && nat_lt 0 (length buffer); retries = retries; trouble = None }
piece_of (Err trouble) buffer retries = record { bytes = []; is_whole = false; retries = retries; trouble = Some trouble }

-- the trouble of its source with which a reading up to a limit stopped, or none
abbrev pub read_trouble_of : {A : Type 0} → Result A ReadFault → Option Trouble
read_trouble_of (Ok value) = None
read_trouble_of (Err (Device trouble)) = Some trouble
read_trouble_of (Err NoMemory) = None

-- a reading of at most `limit` bytes returned this for what it took: fewer bytes are all that there were, and a fault
-- loses them
pub record ReadsUpTo (limit : ℕ) (result : Result (Vec ℕ Global) ReadFault) (intake : Intake) : Type 0 where
  pub bytes : IfOk result (λ read. intake.bytes ≡ read.items)
  pub at_most : length intake.bytes ≤ limit
  pub is_whole : intake.is_whole ≡ (is_ok result && nat_lt (length intake.bytes) limit)
  pub trouble : intake.trouble ≡ read_trouble_of result

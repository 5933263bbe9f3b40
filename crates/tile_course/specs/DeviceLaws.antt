-- Laws on the devices of a run: what their troubles have to do with its outcome.
use Rattle.std.specs.Prelude.{◌≡◌, ◌≢◌, ◌⊎◌, ℕ, ◌<◌, List, length, IsTrue, Some}
use Rattle.tile_course.specs.declared.limits.TheConstants.{MAX_RETRIES, MAX_SCRIPT}
use Rattle.tile_course.specs.declared.outcome.Options.{Options}
use Rattle.tile_course.specs.declared.outcome.Outcome.{Outcome}
use Rattle.tile_course.specs.declared.outcome.Outcome.TheVariants as outcomes
use Rattle.tile_course.specs.declared.outcome.DeviceName.{DeviceName}
use Rattle.tile_course.specs.declared.outcome.DeviceName.TheVariants as devices
use Rattle.tile_device.specs.Seen.{Seen}
use Rattle.tile_course.specs.Headline.{Devices, HasLowCounts, Runs, all_interruptions}

-- a call of the device failed: its count of failures has changed
abbrev pub HasFailed : Seen → Seen → Type 0
HasFailed before after = after.failures ≢ before.failures

-- the counts of all four devices are at most 2^63
pub record HaveLowCounts (devices : Devices) : Type 0 where
  pub tile : HasLowCounts devices.tile
  pub script : HasLowCounts devices.script
  pub replies : HasLowCounts devices.replies
  pub out : HasLowCounts devices.out

-- over all devices more than 1,000 calls were interrupted
abbrev pub AreWornOut : Devices → Devices → Type 0
AreWornOut before after = MAX_RETRIES < all_interruptions before after

-- where a call of a device failed, the outcome names that device
pub record NamesTheFailed (before after : Devices) (outcome : Outcome) : Type 0 where
  pub tile : HasFailed before.tile after.tile → outcome ≡ outcomes.Device devices.Tile
  pub script : HasFailed before.script after.script → outcome ≡ outcomes.Device devices.Script
  pub replies : HasFailed before.replies after.replies → outcome ≡ outcomes.Device devices.Replies
  pub out : HasFailed before.out after.out → outcome ≡ outcomes.Device devices.Out

-- where a call of a device failed, the run ends with that device
abbrev pub FailedDevicesAreNamed : Type 0
FailedDevicesAreNamed = (options : Options) (before after : Devices) (outcome : Outcome) → Runs options before after outcome → NamesTheFailed before after outcome

-- where over all devices more than 1,000 calls were interrupted, and the counts began low, the run ends with a device
abbrev pub WornOutRunsNameADevice : Type 0
WornOutRunsNameADevice = (options : Options) (before after : Devices) (outcome : Outcome) → Runs options before after outcome → HaveLowCounts before → AreWornOut before after → (name : DeviceName) × (outcome ≡ outcomes.Device name)

-- a call of this device failed; or one was interrupted, and over all devices more than 1,000 were
abbrev pub GivesUp : Devices → Devices → Seen → Seen → Type 0
GivesUp before after old new = HasFailed old new ⊎ ((old.interruptions < new.interruptions) × AreWornOut before after)

-- where the script is known and its device still tells its bytes at the end, it has more than 16,777,216 bytes
abbrev pub IsTooLong : Seen → Seen → Type 0
IsTooLong before after = (script : List ℕ) → before.bytes ≡ Some script → IsTrue after.tells → MAX_SCRIPT < length script

-- why a run ends with this device: it gave up, or it is the script and that is too long
abbrev pub HasCause : DeviceName → Devices → Devices → Type 0
HasCause devices.Tile before after = GivesUp before after before.tile after.tile
HasCause devices.Script before after = GivesUp before after before.script after.script ⊎ IsTooLong before.script after.script
HasCause devices.Replies before after = GivesUp before after before.replies after.replies
HasCause devices.Out before after = GivesUp before after before.out after.out

-- a run whose devices began with low counts ends with a device only for such a cause
abbrev pub DevicesAreNamedForCause : Type 0
DevicesAreNamedForCause = (options : Options) (before after : Devices) (name : DeviceName) → Runs options before after (outcomes.Device name) → HaveLowCounts before → HasCause name before after

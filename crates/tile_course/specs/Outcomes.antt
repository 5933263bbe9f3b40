-- Which outcome of a run goes with each way in which one of its steps stops, or with all of them done.
use Rattle.std.specs.Prelude.{Bool, if◌then◌else◌}
use Rattle.tile_device.specs.declared.transfer.ReadFault.{ReadFault}
use Rattle.tile_device.specs.declared.transfer.ReadFault.TheVariants as read_faults
use Rattle.tile_course.specs.declared.outcome.DeviceName.TheVariants as devices
use Rattle.tile_course.specs.declared.outcome.Outcome.{Outcome}
use Rattle.tile_course.specs.declared.outcome.Outcome.TheVariants as outcomes
use Rattle.tile_course.specs.declared.outcome.Unopened.{Unopened}
use Rattle.tile_course.specs.declared.outcome.Unopened.TheVariants as unopened
use Rattle.tile_course.specs.declared.outcome.LineStop.{LineStop}
use Rattle.tile_course.specs.declared.outcome.LineStop.TheVariants as line_stops
use Rattle.tile_course.specs.declared.outcome.ScriptStop.{ScriptStop}
use Rattle.tile_course.specs.declared.outcome.ScriptStop.TheVariants as script_stops
use Rattle.tile_course.specs.declared.outcome.Unwritten.{Unwritten}
use Rattle.tile_course.specs.declared.outcome.Unwritten.TheVariants as unwritten

-- how opening a tile stops for a fault of its reading
abbrev pub fault_of : ReadFault → Unopened
fault_of (read_faults.Device trouble) = unopened.Device
fault_of read_faults.NoMemory = unopened.NoMemory

-- the outcome for the way in which opening the tile stopped
abbrev pub opening_outcome : Unopened → Outcome
opening_outcome unopened.Device = outcomes.Device devices.Tile
opening_outcome (unopened.Refused fault) = outcomes.TileRefused fault
opening_outcome unopened.NoMemory = outcomes.NoMemory

-- how a script stops for the way in which a line stopped
abbrev pub script_stop_of : LineStop → ScriptStop
script_stop_of line_stops.Replies = script_stops.Replies
script_stop_of line_stops.Strict = script_stops.Strict

-- the outcome for the way in which the script stopped
abbrev pub script_outcome : ScriptStop → Outcome
script_outcome script_stops.Script = outcomes.Device devices.Script
script_outcome script_stops.Replies = outcomes.Device devices.Replies
script_outcome script_stops.Strict = outcomes.StrictStop
script_outcome script_stops.NoMemory = outcomes.NoMemory

-- the outcome for the way in which writing the tile stopped
abbrev pub writing_outcome : Unwritten → Outcome
writing_outcome unwritten.Device = outcomes.Device devices.Out
writing_outcome unwritten.NoMemory = outcomes.NoMemory

-- the outcome once the edited tile is written: `SomeRefused` where a line was refused, else `Done`
abbrev pub edited_outcome : Bool → Outcome
edited_outcome any_refused = if any_refused then outcomes.SomeRefused else outcomes.Done

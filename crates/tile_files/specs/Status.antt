-- The exit status of the program.
use Rattle.std.specs.Prelude.{ℕ}
use Rattle.tile_course.specs.declared.outcome.Outcome.{Outcome}
use Rattle.tile_course.specs.declared.outcome.Outcome.TheVariants.{Done, SomeRefused, StrictStop, TileRefused, Device, NoMemory}

-- the status that goes with the outcome of a run: 0 where every line was accepted, 1 where one was refused, 3 where the
-- tile did not open, 4 where a device failed or the script is too long, and 5 where there was no memory
abbrev pub status_of : Outcome → ℕ
status_of Done = 0
status_of SomeRefused = 1
status_of StrictStop = 1
status_of (TileRefused fault) = 3
status_of (Device name) = 4
status_of NoMemory = 5

use Rattle.std.proofs.Common.{◌≤◌, ◌-◌, length}
use Rattle.mvt_renumber.specs.Deciding.{StaysBefore}
use Rattle.mvt_renumber.proofs.renumber.first_change.Given as goal

abbrev pub invariant-loop-place : goal.invariant-loop-place
invariant-loop-place l = record { within : l.place ≤ length l.bytes; stays : StaysBefore l.bytes l.decisions l.place l.left }

abbrev pub decreases-loop-place : goal.decreases-loop-place
decreases-loop-place l = length l.bytes - l.place

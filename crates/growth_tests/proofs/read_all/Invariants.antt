use Rattle.std.proofs.Common.{length, ◌-◌, ◌≡◌, ◌≤◌}
use Rattle.growth_tests.proofs.read_all.Given as goal

abbrev pub invariant-loop-length : goal.invariant-loop-length
invariant-loop-length g l = (length l.room ≡ length l.initial.room) × (l.length ≤ length l.room)

abbrev pub decreases-loop-length : goal.decreases-loop-length
decreases-loop-length g l = length l.initial.room - l.length

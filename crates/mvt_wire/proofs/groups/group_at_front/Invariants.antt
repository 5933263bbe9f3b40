use Rattle.std.proofs.Common.{◌-◌, length}
use Rattle.mvt_wire.proofs.GroupSteps.{IsInGroup}
use Rattle.mvt_wire.proofs.groups.group_at_front.Given as goal

abbrev pub invariant-loop-groups : goal.invariant-loop-groups
invariant-loop-groups l = IsInGroup l.number l.bytes l.groups l.place

abbrev pub decreases-loop-groups : goal.decreases-loop-groups
decreases-loop-groups l = length l.bytes - l.place

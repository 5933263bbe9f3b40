use Rattle.std.proofs.Common.{◌≡◌, length, take, map}
use Rattle.mvt_change.specs.ChangeStands.{change_of}
use Rattle.mvt_change.specs.Joining.{joined}
use Rattle.mvt_change.proofs.joining.reserve_for.Given as goal

abbrev pub invariant-loop-other : goal.invariant-loop-other
invariant-loop-other l = l.count ≡ length (joined (map change_of (take l.other-index l.others)))

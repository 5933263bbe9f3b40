use Rattle.std.proofs.Common.{◌≡◌, ◌≤◌, ◌++◌, false, length, map, reverse}
use Rattle.mvt_change.specs.ChangeStands.{change_of}
use Rattle.mvt_change.specs.Joining.{joined}
use Rattle.mvt_change.proofs.joining.append_all.Given as goal

abbrev pub invariant-loop-other : goal.invariant-loop-other
invariant-loop-other l = record {
  room : length (joined (map change_of l.others.items)) ≤ l.change.steps.room;
  order : l.change.backwards ≡ false;
  rest : change_of l.change ++ joined (reverse (map change_of l.others.items)) ≡ change_of l.fn.change ++ joined (reverse (map change_of l.fn.others.items));
}

abbrev pub decreases-loop-other : goal.decreases-loop-other
decreases-loop-other l = length l.others.items

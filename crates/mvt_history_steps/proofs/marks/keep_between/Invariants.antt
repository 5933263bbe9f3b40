use Rattle.std.proofs.Common.{◌≡◌, ◌≤◌, All}
use Rattle.mvt_history_steps.proofs.Lowered.{lowered_below}
use Rattle.mvt_history_steps.proofs.marks.keep_between.Given as goal

-- those before the place are lowered, and none was of a lower point
abbrev pub invariant-loop-mark : goal.invariant-loop-mark
invariant-loop-mark l = record {
  lowered : l.mark-items ≡ lowered_below l.low l.mark-index l.initial.mark-items;
  no_lower : All (λ mark. l.low ≤ mark.point) l.initial.mark-items;
}

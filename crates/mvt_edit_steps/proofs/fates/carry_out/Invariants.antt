use Rattle.std.proofs.Common.{Ok}
use Rattle.std.specs.Fn.{FnReturns, FnReturnsAt}
use Rattle.std.specs.List.{AllZip}
use Rattle.mvt_edit_steps.specs.Fates.{MakesSteps}
use Rattle.mvt_edit_steps.proofs.Following.{SoFar}
use Rattle.mvt_edit_steps.proofs.fates.carry_out.Given as goal

abbrev pub invariant-loop-index : goal.invariant-loop-index
invariant-loop-index g l =
    SoFar (AllZip (λ item fate. FnReturnsAt g.F.Fn l.fate_of item (Ok fate))) l.items (MakesSteps (λ run made. FnReturns g.S.Fn l.step (run, tt) (Ok made)))
    l.initial.steps.items l.steps.items l.walk l.index

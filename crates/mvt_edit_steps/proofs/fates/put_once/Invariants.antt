use Rattle.std.proofs.Common.{Ok, Some}
use Rattle.std.specs.Fn.{FnReturns, FnReturnsAt}
use Rattle.mvt_edit_steps.specs.Fates.{MakesSteps}
use Rattle.mvt_edit_steps.proofs.Following.{SoFar}
use Rattle.mvt_edit_steps.proofs.Once.{Once}
use Rattle.mvt_edit_steps.proofs.fates.put_once.Given as goal

abbrev pub invariant-loop-index : goal.invariant-loop-index
invariant-loop-index g l =
    SoFar (λ items. Once (λ item is. FnReturnsAt g.P.Fn l.passes item is) items (Some l.fn.new) l.left) l.items (MakesSteps (λ run made. FnReturns g.S.Fn l.step (run, tt) (Ok made)))
    l.initial.steps.items l.steps.items l.walk l.index

use Rattle.std.proofs.Common.{◌≡◌, Ok, map}
use Rattle.std.specs.Fn.{FnReturns}
use Rattle.mvt_edit_steps.specs.Fates.{MakesSteps, goes_if}
use Rattle.mvt_edit_steps.proofs.Following.{SoFar}
use Rattle.mvt_edit_steps.proofs.fates.take_out.Given as goal

abbrev pub invariant-loop-index : goal.invariant-loop-index
invariant-loop-index g l =
    SoFar (λ picked fates. fates ≡ map (λ is. goes_if is) picked) l.picked (MakesSteps (λ run made. FnReturns g.S.Fn l.step (run, tt) (Ok made)))
    l.initial.steps.items l.steps.items l.walk l.index

use Rattle.std.proofs.Common.{Ok, take}
use Rattle.std.specs.Fn.{FnReturns}
use Rattle.mvt_edit_steps.specs.Fates.{MakesSteps}
use Rattle.mvt_edit_steps.proofs.Decided.{Decided, Sized}
use Rattle.mvt_edit_steps.proofs.Following.{SoFar}
use Rattle.mvt_edit_steps.proofs.fates.renumber_fields.Given as goal

abbrev pub invariant-loop-index : goal.invariant-loop-index
invariant-loop-index g l = record {
  steps : SoFar (Decided l.number l.decisions l.left) l.fields (MakesSteps (λ run made. FnReturns g.S.Fn l.step (run, tt) (Ok made)))
      l.initial.steps.items l.steps.items l.walk l.index;
  size : Sized l.number l.decisions l.left (take l.index l.fields) l.fn.beside l.size;
}

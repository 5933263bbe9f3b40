use Rattle.std.proofs.Common.{Result, Ok, Err, IfOk, sym, ◌∙◌}
use Rattle.std.proofs.lemmas.Bool.{false≢true}
use Rattle.std.specs.Result.{IsErr}
use Rattle.mvt_history_steps.proofs.Stepping.{on_refusal}
use Rattle.mvt_history.proofs.session.flipped.Goals as goal

pub flip-requires : goal.flip-requires
flip-requires c = c.requires

pub returns-in_err-flip-clause-document : goal.returns-in_err-flip-clause-document
returns-in_err-flip-clause-document c = c.in_err-flip.ensures.document ∙ sym (on_refusal c.from_residual.result _ _ c.from_residual.ensures.0)

-- a refusal leads nowhere back
nowhere : {A E : Type 0} (answer : Result A E) (P : A → Type 0) → IsErr answer → IfOk answer P
nowhere (Ok back) P err = absurd (false≢true err)
nowhere (Err error) P err = tt

pub returns-in_err-flip-clause-back : goal.returns-in_err-flip-clause-back
returns-in_err-flip-clause-back c = nowhere c.from_residual.result _ c.from_residual.ensures.0

pub returns-clause-document : goal.returns-clause-document
returns-clause-document c = c.in_ok-flip.ensures.document

pub returns-clause-back : goal.returns-clause-back
returns-clause-back c = c.in_ok-flip.ensures.change

use Rattle.std.proofs.Common.{◌∙◌, ap, Err}
use Rattle.std.proofs.lemmas.Result.{err_from_is_err_and}
use Rattle.tile_run.proofs.Stopping.{kept_or_stopped}
use Rattle.tile_run.proofs.answer.carry_out_request.Goals as goal

pub returns-in_err-change_history-in_default : goal.returns-in_err-change_history-in_default
returns-in_err-change_history-in_default c =
    let p = err_from_is_err_and c.from_residual-in_err-change_history-in_default.result c.from_residual-in_err-change_history-in_default.ensures.1 in
    let refused = c.in_err-change_history-in_default.ensures in
    rw (p.1 ∙ ap Err p.2) (record { answer = refused.answer; err = kept_or_stopped _ _ _ refused.err })

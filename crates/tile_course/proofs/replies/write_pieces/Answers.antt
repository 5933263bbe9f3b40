use Rattle.std.proofs.Common.{◌∙◌, ap, Err}
use Rattle.std.proofs.lemmas.Result.{err_from_is_err_and}
use Rattle.tile_device.proofs.Sending.{sends_nothing, pieces_more, pieces_stop}
use Rattle.tile_course.proofs.replies.write_pieces.Goals as goal

pub loop-piece-init : goal.loop-piece-init
loop-piece-init g c = sends_nothing _ _

pub loop-piece-preserved : goal.loop-piece-preserved
loop-piece-preserved g c = pieces_more _ _ _ _ _ _ _ _ _ _ c.loop-piece-test.true c.loop-piece.invariant c.in_ok-write_all.ensures.sends

pub returns-in_err-write_all : goal.returns-in_err-write_all
returns-in_err-write_all g c =
    let p = err_from_is_err_and c.from_residual.result c.from_residual.ensures.1 in
    rw (p.1 ∙ ap Err p.2) (pieces_stop _ _ _ _ _ _ _ _ _ _ _ c.loop-piece-test.true c.loop-piece.invariant c.in_err-write_all.ensures.sends)

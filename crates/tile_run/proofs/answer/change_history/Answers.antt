use Rattle.tile_run.proofs.Stopping.{answers_undo, answers_mark, answers_back, answers_begin, answers_cancel}
use Rattle.tile_run.proofs.answer.change_history.Goals as goal

pub returns-in-Undo-clause-answer : goal.returns-in-Undo-clause-answer
returns-in-Undo-clause-answer c history stands = rw c.in-Undo.is (answers_undo history c.undo.result _ (c.undo.ensures.answer history stands))

pub returns-in-Mark-clause-answer : goal.returns-in-Mark-clause-answer
returns-in-Mark-clause-answer c history stands =
    let answers = rw c.as_slice.ensures at c.mark.ensures.answer history stands in
    let unmarked = rw c.as_slice.ensures at c.mark.ensures.no_memory in
    rw c.in-Mark.is (answers_mark _ history c.mark.result _ _ stands unmarked answers)

pub returns-in-Back-clause-answer : goal.returns-in-Back-clause-answer
returns-in-Back-clause-answer c history stands =
    rw (c.in-Back.is, ← c.as_slice-in-Back.ensures) (answers_back _ history c.back.result _ (c.back.ensures.answer history stands))

pub returns-in-Begin-clause-answer : goal.returns-in-Begin-clause-answer
returns-in-Begin-clause-answer c history stands = rw c.in-Begin.is (answers_begin history c.begin.result _ (c.begin.ensures.answer history stands))

pub returns-in-Cancel-clause-answer : goal.returns-in-Cancel-clause-answer
returns-in-Cancel-clause-answer c history stands = rw c.in-Cancel.is (answers_cancel history c.cancel.result _ (c.cancel.ensures.answer history stands))

use Rattle.std.proofs.Common.{ap, Err}
use Rattle.tile_run.proofs.Walks.{carries_nothing, carries_request, carries_refusal}
use Rattle.tile_run.proofs.editor.carry_out_line.Goals as goal

pub returns-in-Ok-None : goal.returns-in-Ok-None
returns-in-Ok-None c p line stands is = let e = rw c.in-Ok-None.field-0-is at c.in-Ok-None.ensures.answer line is in carries_nothing _ _ p e stands

pub returns-in-Ok-Some : goal.returns-in-Ok-Some
returns-in-Ok-Some c p line stands is =
    let e = rw c.in-Ok-Some.field-0-is at c.in-Ok-Some.ensures.answer line is in
    carries_request _ _ _ p _ e (c.carry_out_request-answer.ensures.answer p.history stands)

pub returns-in-Err : goal.returns-in-Err
returns-in-Err c p line stands is = carries_refusal _ _ _ p (λ out_of_memory. c.in-Err.ensures.no_memory line is (ap Err out_of_memory)) (c.in-Err.ensures.answer line is) stands

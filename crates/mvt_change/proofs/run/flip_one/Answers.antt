use Rattle.mvt_change.proofs.ListRuns.{first_finds}
use Rattle.mvt_change.proofs.Underway.{no_more, one_more}
use Rattle.mvt_change.proofs.run.flip_one.Goals as goal

pub flip_step-requires : goal.flip_step-requires
flip_step-requires c = first_finds c.args.steps.now c.index-steps-0.result c.args.document.now c.requires.some c.requires.fits

pub returns-in-Ok-clause-made : goal.returns-in-Ok-clause-made
returns-in-Ok-clause-made c = λ change start made under.
    let met = c.in-Ok.ensures in
    one_more change start made c.args.steps.now 0 c.index-steps-0.result c.flip_step.new.step c.args.document.now c.flip_step.new.document c.requires.some c.index-steps-0.is under (rw (← c.index-steps-0.is) at met.kept) (rw (← c.index-steps-0.is) at met.turned)

pub returns-in-Err-clause-made : goal.returns-in-Err-clause-made
returns-in-Err-clause-made c = λ change start made under.
    let met = c.in-Err.ensures in
    no_more change start made c.args.steps.now 0 c.index-steps-0.result c.flip_step.new.step c.args.document.now c.flip_step.new.document c.requires.some c.index-steps-0.is under met.kept (rw (← c.index-steps-0.is) at met.same)

use Rattle.tile_run.proofs.Courses.{runs_to_tile, runs_to_start}
use Rattle.tile_run.proofs.runs.run_and_hold.Goals as goal

pub returns-in-Err-clause-course : goal.returns-in-Err-clause-course
returns-in-Err-clause-course g c =
    runs_to_tile c.args.options _ _ _ _ _ _ _ c.in-Err.stop _ c.new-retries.ensures c.in-Err.ensures c.into.ensures

pub returns-in_default-clause-course : goal.returns-in_default-clause-course
returns-in_default-clause-course g c =
    runs_to_start c.args.options _ _ _ _ _ _ _ c.in-Ok.opened.0 c.new-retries.ensures c.in-Ok.ensures

pub returns-clause-course : goal.returns-clause-course
returns-clause-course g c =
    c.edit-outcome.ensures.course c.args.options c.in-Ok.opened.0 _ _ (rw (← c.new-retries.ensures) c.in-Ok.ensures) c.in-Some.ensures

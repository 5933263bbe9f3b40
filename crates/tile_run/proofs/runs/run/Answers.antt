use Rattle.tile_course.proofs.Headlines.{headline, refuses_tile, writes_a_tile}
use Rattle.tile_run.proofs.runs.run.Goals as goal

pub returns-clause-headline : goal.returns-clause-headline
returns-clause-headline g c = headline c.args.options _ _ _ c.run_and_hold-outcome.ensures.course

pub returns-clause-writes_a_tile : goal.returns-clause-writes_a_tile
returns-clause-writes_a_tile g c = writes_a_tile c.args.options _ _ _ c.run_and_hold-outcome.ensures.course

pub returns-clause-refuses_tile : goal.returns-clause-refuses_tile
returns-clause-refuses_tile g c = refuses_tile c.args.options _ _ _ c.run_and_hold-outcome.ensures.course

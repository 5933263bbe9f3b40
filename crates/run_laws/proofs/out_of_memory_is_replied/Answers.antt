use Rattle.run_laws.proofs.NoneOutOfMemory.{no_run_is_out_of_memory}
use Rattle.run_laws.proofs.LineLaws.{runs_are_walks}
use Rattle.tile_course.proofs.Replying.{walks_are_runs}
use Rattle.run_laws.proofs.out_of_memory_is_replied.Goals as goal

pub returns-clause-never_out_of_memory : goal.returns-clause-never_out_of_memory
returns-clause-never_out_of_memory c = walks_are_runs

pub returns-clause-with_memory : goal.returns-clause-with_memory
returns-clause-with_memory c = runs_are_walks

pub returns-clause-never : goal.returns-clause-never
returns-clause-never c = no_run_is_out_of_memory

use Rattle.run_laws.proofs.StepLines.{cancel_in_a_run, step_undone_in_a_run}
use Rattle.run_laws.proofs.steps_in_a_run.Goals as goal

pub returns-clause-cancelled : goal.returns-clause-cancelled
returns-clause-cancelled c = cancel_in_a_run

pub returns-clause-undone : goal.returns-clause-undone
returns-clause-undone c = step_undone_in_a_run

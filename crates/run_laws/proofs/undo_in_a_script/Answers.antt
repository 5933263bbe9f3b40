use Rattle.run_laws.proofs.UndoLines.{undo_in_a_run, undo_in_a_script}
use Rattle.run_laws.proofs.undo_in_a_script.Goals as goal

pub returns-clause-progress : goal.returns-clause-progress
returns-clause-progress c = undo_in_a_run

pub returns-clause-script : goal.returns-clause-script
returns-clause-script c = undo_in_a_script

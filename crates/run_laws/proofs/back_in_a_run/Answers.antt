use Rattle.run_laws.proofs.StepLines as lines
use Rattle.run_laws.proofs.back_in_a_run.Goals as goal

pub returns : goal.returns
returns c = lines.back_in_a_run

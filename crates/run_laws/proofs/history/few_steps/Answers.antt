use Rattle.run_laws.proofs.Reaching.{few_steps}
use Rattle.run_laws.proofs.history.few_steps.Goals as goal

pub returns : goal.returns
returns c = few_steps

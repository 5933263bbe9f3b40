use Rattle.run_laws.proofs.NoTrace.{empty_step_leaves_no_trace}
use Rattle.run_laws.proofs.history.empty_step_leaves_no_trace.Goals as goal

pub returns : goal.returns
returns c = empty_step_leaves_no_trace

use Rattle.run_laws.proofs.NoTrace.{cancel_leaves_no_trace}
use Rattle.run_laws.proofs.history.cancel_leaves_no_trace.Goals as goal

pub returns : goal.returns
returns c = cancel_leaves_no_trace

use Rattle.run_laws.proofs.Reaching.{kept_within}
use Rattle.run_laws.proofs.history.kept_within.Goals as goal

pub returns : goal.returns
returns c = kept_within

use Rattle.run_laws.proofs.GoingOn.{stopped_goes_on}
use Rattle.run_laws.proofs.history.stopped_goes_on.Goals as goal

pub returns : goal.returns
returns c = stopped_goes_on

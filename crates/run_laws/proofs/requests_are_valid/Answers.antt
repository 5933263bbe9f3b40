use Rattle.run_laws.proofs.ValidRequests.{requests_are_valid}
use Rattle.run_laws.proofs.requests_are_valid.Goals as goal

pub returns : goal.returns
returns c = requests_are_valid

use Rattle.run_laws.proofs.Throughout.{stays_valid}
use Rattle.run_laws.proofs.history.stays_valid.Goals as goal

pub returns : goal.returns
returns c = stays_valid

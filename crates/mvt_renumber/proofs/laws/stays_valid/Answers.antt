use Rattle.mvt_renumber.proofs.Redone.{stays_valid}
use Rattle.mvt_renumber.proofs.laws.stays_valid.Goals as goal

pub returns : goal.returns
returns c = stays_valid

use Rattle.mvt_renumber.proofs.Redone.{lower_no_longer}
use Rattle.mvt_renumber.proofs.laws.lower_no_longer.Goals as goal

pub returns : goal.returns
returns c = lower_no_longer

use Rattle.mvt_renumber.proofs.Redone.{kept_stays}
use Rattle.mvt_renumber.proofs.laws.kept_stays.Goals as goal

pub returns : goal.returns
returns c = kept_stays

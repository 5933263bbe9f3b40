use Rattle.mvt_renumber.proofs.Redone.{others_stay}
use Rattle.mvt_renumber.proofs.laws.others_stay.Goals as goal

pub returns : goal.returns
returns c = others_stay

use Rattle.mvt_geometry.proofs.Reach.{integers_reach}
use Rattle.mvt_geometry.proofs.laws.integers_reach.Goals as goal

pub returns : goal.returns
returns c = integers_reach

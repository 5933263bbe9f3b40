use Rattle.mvt_geometry.proofs.Only.{has_itself}
use Rattle.mvt_geometry.proofs.laws.integers_have_theirs.Goals as goal

pub returns : goal.returns
returns c = has_itself

use Rattle.mvt_geometry.proofs.Only.{one_geometry}
use Rattle.mvt_geometry.proofs.laws.one_geometry.Goals as goal

pub returns : goal.returns
returns c = one_geometry

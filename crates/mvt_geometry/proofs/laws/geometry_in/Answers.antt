use Rattle.mvt_geometry.proofs.Found.{geometry_in_numbers}
use Rattle.mvt_geometry.proofs.laws.geometry_in.Goals as goal

pub returns : goal.returns
returns c = geometry_in_numbers

use Rattle.command_laws.proofs.GeometrySet.{set_geometry_sets}
use Rattle.command_laws.proofs.geometry.set_geometry_sets.Goals as goal

pub returns : goal.returns
returns c = set_geometry_sets

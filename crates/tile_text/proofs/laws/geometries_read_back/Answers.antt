use Rattle.tile_text.proofs.ReadPoints.{geometry_read_back}
use Rattle.tile_text.proofs.laws.geometries_read_back.Goals as goal

pub returns : goal.returns
returns c = geometry_read_back

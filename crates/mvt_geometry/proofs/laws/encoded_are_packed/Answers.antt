use Rattle.mvt_geometry.proofs.Small.{packs_integers}
use Rattle.mvt_geometry.proofs.laws.encoded_are_packed.Goals as goal

pub returns : goal.returns
returns c = packs_integers

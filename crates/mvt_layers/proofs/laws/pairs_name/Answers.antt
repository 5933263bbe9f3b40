use Rattle.mvt_layers.proofs.Pairing.{pairs_are_named}
use Rattle.mvt_layers.proofs.laws.pairs_name.Goals as goal

pub returns : goal.returns
returns c = pairs_are_named

use Rattle.mvt_layers.proofs.Pairing.{tags_are_pairs}
use Rattle.mvt_layers.proofs.laws.tags_are_pairs.Goals as goal

pub returns : goal.returns
returns c = tags_are_pairs

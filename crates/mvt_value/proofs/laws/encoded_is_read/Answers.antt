use Rattle.mvt_value.proofs.Encoded.{encoded_has}
use Rattle.mvt_value.proofs.laws.encoded_is_read.Goals as goal

pub returns : goal.returns
returns c = encoded_has

use Rattle.mvt_value.proofs.Found.{value_in_bytes}
use Rattle.mvt_value.proofs.laws.value_in.Goals as goal

pub returns : goal.returns
returns c = value_in_bytes

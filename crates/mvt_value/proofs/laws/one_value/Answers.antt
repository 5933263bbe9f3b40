use Rattle.mvt_value.proofs.Fields.{one_of_bytes}
use Rattle.mvt_value.proofs.laws.one_value.Goals as goal

pub returns : goal.returns
returns c = one_of_bytes

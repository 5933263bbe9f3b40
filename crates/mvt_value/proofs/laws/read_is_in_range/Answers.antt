use Rattle.mvt_value.proofs.Fields.{read_in_range}
use Rattle.mvt_value.proofs.laws.read_is_in_range.Goals as goal

pub returns : goal.returns
returns c = read_in_range

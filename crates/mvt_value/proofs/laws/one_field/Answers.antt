use Rattle.mvt_value.proofs.Fields.{one_field_alone}
use Rattle.mvt_value.proofs.laws.one_field.Goals as goal

pub returns : goal.returns
returns c = one_field_alone

use Rattle.mvt_renumber.proofs.Reread.{read_of_fields}
use Rattle.mvt_renumber.proofs.laws.read_of_fields.Goals as goal

pub returns : goal.returns
returns c = read_of_fields

use Rattle.mvt_renumber.proofs.Redone.{left_is_read}
use Rattle.mvt_renumber.proofs.laws.left_is_read.Goals as goal

pub returns : goal.returns
returns c = left_is_read

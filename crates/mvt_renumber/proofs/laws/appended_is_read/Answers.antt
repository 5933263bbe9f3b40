use Rattle.mvt_renumber.proofs.Reread.{appended_is_read}
use Rattle.mvt_renumber.proofs.laws.appended_is_read.Goals as goal

pub returns : goal.returns
returns c = appended_is_read

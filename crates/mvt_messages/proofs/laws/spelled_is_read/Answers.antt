use Rattle.mvt_messages.proofs.Pieces.{row-packed}
use Rattle.mvt_messages.proofs.laws.spelled_is_read.Goals as goal

pub returns : goal.returns
returns c = row-packed

use Rattle.mvt_messages.proofs.Pieces.{bad_no_number}
use Rattle.mvt_messages.proofs.laws.bad_is_no_number.Goals as goal

pub returns : goal.returns
returns c = bad_no_number

use Rattle.mvt_messages.proofs.Pieces.{found_spelled}
use Rattle.mvt_messages.proofs.laws.read_is_spelled.Goals as goal

pub returns : goal.returns
returns c = found_spelled

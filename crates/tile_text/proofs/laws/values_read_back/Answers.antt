use Rattle.tile_text.proofs.ReadAgain.{value_read_back}
use Rattle.tile_text.proofs.laws.values_read_back.Goals as goal

pub returns : goal.returns
returns c = value_read_back

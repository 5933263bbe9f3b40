use Rattle.tile_text.proofs.ReadAgain.{text_read_back}
use Rattle.tile_text.proofs.laws.texts_read_back.Goals as goal

pub returns : goal.returns
returns c = text_read_back

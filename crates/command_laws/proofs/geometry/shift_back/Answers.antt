use Rattle.command_laws.proofs.ShiftedBack.{shift_back}
use Rattle.command_laws.proofs.geometry.shift_back.Goals as goal

pub returns : goal.returns
returns c = shift_back

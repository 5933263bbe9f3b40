use Rattle.command_laws.proofs.Shifted.{shift_by_nothing}
use Rattle.command_laws.proofs.geometry.shift_by_nothing.Goals as goal

pub returns : goal.returns
returns c = shift_by_nothing

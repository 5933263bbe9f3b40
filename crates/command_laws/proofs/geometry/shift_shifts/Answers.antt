use Rattle.command_laws.proofs.Shifted.{shift_shifts}
use Rattle.command_laws.proofs.geometry.shift_shifts.Goals as goal

pub returns : goal.returns
returns c = shift_shifts

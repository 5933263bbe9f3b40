use Rattle.command_laws.proofs.Lengths.{command_fits}
use Rattle.command_laws.proofs.command_fits.Goals as goal

pub returns : goal.returns
returns c = command_fits

use Rattle.command_laws.proofs.Lengths.{never_longer}
use Rattle.command_laws.proofs.never_longer.Goals as goal

pub returns : goal.returns
returns c = never_longer

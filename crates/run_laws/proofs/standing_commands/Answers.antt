use Rattle.run_laws.proofs.Standing.{standing_commands_make}
use Rattle.run_laws.proofs.standing_commands.Goals as goal

pub returns : goal.returns
returns c = standing_commands_make

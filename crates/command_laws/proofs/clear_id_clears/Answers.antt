use Rattle.command_laws.proofs.FeatureCommands.{clear_id_clears}
use Rattle.command_laws.proofs.clear_id_clears.Goals as goal

pub returns : goal.returns
returns c = clear_id_clears

use Rattle.command_laws.proofs.FeatureCommands.{set_id_sets}
use Rattle.command_laws.proofs.set_id_sets.Goals as goal

pub returns : goal.returns
returns c = set_id_sets

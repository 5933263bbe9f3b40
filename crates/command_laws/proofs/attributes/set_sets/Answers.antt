use Rattle.command_laws.proofs.Setting.{set_sets}
use Rattle.command_laws.proofs.attributes.set_sets.Goals as goal

pub returns : goal.returns
returns c = set_sets

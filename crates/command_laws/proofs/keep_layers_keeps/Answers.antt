use Rattle.command_laws.proofs.LayerCommands.{keep_layers_keeps}
use Rattle.command_laws.proofs.keep_layers_keeps.Goals as goal

pub returns : goal.returns
returns c = keep_layers_keeps

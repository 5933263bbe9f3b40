use Rattle.command_laws.proofs.LayerCommands.{drop_layer_drops}
use Rattle.command_laws.proofs.drop_layer_drops.Goals as goal

pub returns : goal.returns
returns c = drop_layer_drops

use Rattle.command_laws.proofs.LayerCommands.{move_layer_moves}
use Rattle.command_laws.proofs.move_layer_moves.Goals as goal

pub returns : goal.returns
returns c = move_layer_moves

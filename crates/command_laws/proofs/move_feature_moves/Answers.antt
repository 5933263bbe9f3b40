use Rattle.command_laws.proofs.FeatureCommands.{move_feature_moves}
use Rattle.command_laws.proofs.move_feature_moves.Goals as goal

pub returns : goal.returns
returns c = move_feature_moves

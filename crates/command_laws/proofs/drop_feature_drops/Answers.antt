use Rattle.command_laws.proofs.FeatureCommands.{drop_feature_drops}
use Rattle.command_laws.proofs.drop_feature_drops.Goals as goal

pub returns : goal.returns
returns c = drop_feature_drops

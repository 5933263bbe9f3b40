use Rattle.command_laws.proofs.FeatureCommands.{insert_feature_inserts}
use Rattle.command_laws.proofs.insert_feature_inserts.Goals as goal

pub returns : goal.returns
returns c = insert_feature_inserts

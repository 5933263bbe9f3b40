use Rattle.mvt_document.specs.Stands.{layer_item_of}
use Rattle.mvt_messages.specs.Views.{feature_in}
use Rattle.mvt_layers.proofs.Placing.{found_fit}
use Rattle.mvt_layers.proofs.lists.FeatureViews.of.Goals as goal

pub returns-clause-bound : goal.returns-clause-bound
returns-clause-bound c = found_fit layer_item_of feature_in c.args.items.now c.well_formed.0.0

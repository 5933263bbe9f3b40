use Rattle.mvt_document.specs.Stands.{tile_item_of}
use Rattle.mvt_messages.specs.Views.{layer_in}
use Rattle.mvt_layers.proofs.Placing.{found_fit}
use Rattle.mvt_layers.proofs.lists.LayerViews.of.Goals as goal

pub returns-clause-bound : goal.returns-clause-bound
returns-clause-bound c = found_fit tile_item_of layer_in c.args.items.now c.well_formed.0.0

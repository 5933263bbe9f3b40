use Rattle.mvt_document.specs.Stands.{layer_of}
use Rattle.mvt_meaning.specs.CommandStands.{feature_choice_of}
use Rattle.tile_listing.proofs.Choosing.{feature_chosen}
use Rattle.tile_listing.proofs.show.chosen_feature.Goals as goal

pub returns : goal.returns
returns c = feature_chosen (feature_choice_of c.args.choice.now) (layer_of c.args.layer.now) c.find_feature.result c.find_feature.ensures.found c.find_feature.ensures.refused

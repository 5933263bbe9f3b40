use Rattle.mvt_document.specs.Stands.{document_of}
use Rattle.mvt_meaning.specs.CommandStands.{layer_choice_of}
use Rattle.tile_listing.proofs.Choosing.{layer_chosen}
use Rattle.tile_listing.proofs.show.chosen_layer.Goals as goal

pub returns : goal.returns
returns c = layer_chosen (layer_choice_of c.args.choice.now) (document_of c.args.document.now) c.find_layer.result c.find_layer.ensures.found c.find_layer.ensures.refused

use Rattle.mvt_document.specs.Stands.{document_of}
use Rattle.mvt_meaning.specs.CommandStands.{layer_choice_of}
use Rattle.mvt_select.proofs.Chosen.{one_selected}
use Rattle.mvt_select.proofs.layers.find_layers.Goals as goal

pub returns-in_ok-find_layer-in-One-clause-found : goal.returns-in_ok-find_layer-in-One-clause-found
returns-in_ok-find_layer-in-One-clause-found c =
    rw c.in-One.is (one_selected (layer_choice_of c.in-One.choice) (document_of c.args.document.now) c.in_ok-find_layer-in-One.field-0 c.in_ok-find_layer-in-One.ensures.found)

use Rattle.mvt_document.specs.Stands.{document_of, layer_of}
use Rattle.mvt_meaning.specs.Command.{DropLayer}
use Rattle.mvt_meaning.specs.CommandStands.{layer_choice_of}
use Rattle.mvt_edit_lists.proofs.Gone.{layer_asks, layer_goes}
use Rattle.mvt_edit_steps.proofs.Refusing.{ran_out}
use Rattle.mvt_edit_lists.proofs.drop_layer.drop_layer.Goals as goal

pub returns : goal.returns
returns c =
    let found = c.in_ok-found.ensures.found in
    layer_goes (layer_choice_of c.args.choice.now) (document_of c.args.document.now) c.in_ok-found.found.ordinal c.in_ok-found.found.position (layer_of c.in_ok-found.found.layer.now) found.selects found.placed found.there _ c.in_ok-item_out.ensures

pub returns-in_err-item_out : goal.returns-in_err-item_out
returns-in_err-item_out c =
    let choice = layer_choice_of c.args.choice.now in
    let document = document_of c.args.document.now in
    ran_out (DropLayer choice) document c.from_residual-in_err-item_out.result c.from_residual-in_err-item_out.ensures.1 (layer_asks choice document c.in_ok-found.found.ordinal c.in_ok-found.ensures.found.selects)

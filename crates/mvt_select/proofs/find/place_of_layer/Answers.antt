use Rattle.std.proofs.Common.{sym, ap, option_map, ◌∙◌}
use Rattle.mvt_document.specs.Stands.{document_of}
use Rattle.mvt_layers.specs.Seen.{found_layer_seen}
use Rattle.mvt_messages.specs.Views.{layer_in}
use Rattle.mvt_select.proofs.Selected.{no_position_there, position_there}
use Rattle.mvt_select.proofs.find.place_of_layer.Goals as goal

pub returns-in-Some : goal.returns-in-Some
returns-in-Some c = position_there layer_in (document_of c.args.document.now) c.args.ordinal (found_layer_seen c.in-Some.found) (sym c.layer.ensures ∙ ap (option_map found_layer_seen) c.in-Some.is)

pub returns-in-None : goal.returns-in-None
returns-in-None c = no_position_there layer_in (document_of c.args.document.now) c.args.ordinal (sym c.layer.ensures ∙ ap (option_map found_layer_seen) c.in-None.is)

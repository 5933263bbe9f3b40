use Rattle.std.proofs.Common.{sym, ap, option_map, slice_get, ◌∙◌}
use Rattle.mvt_document.specs.Plain as plain
use Rattle.mvt_document.specs.Stands.{layer_of}
use Rattle.mvt_messages.specs.Found.{found_features}
use Rattle.mvt_layers.specs.Seen.{found_feature_seen}
use Rattle.mvt_messages.specs.Views.{feature_in}
use Rattle.mvt_select.proofs.Selected.{no_position_there, position_there}
use Rattle.mvt_select.proofs.find.place_of_feature.Goals as goal

pub returns-in-Some : goal.returns-in-Some
returns-in-Some c = position_there feature_in (layer_of c.args.layer.now).items c.args.ordinal (found_feature_seen c.in-Some.found) (sym (c.feature.ensures ∙ ap (λ (seen : plain.Layer). slice_get (found_features seen.items) c.args.ordinal) c.of.ensures) ∙ ap (option_map found_feature_seen) c.in-Some.is)

pub returns-in-None : goal.returns-in-None
returns-in-None c = no_position_there feature_in (layer_of c.args.layer.now).items c.args.ordinal (sym (c.feature.ensures ∙ ap (λ (seen : plain.Layer). slice_get (found_features seen.items) c.args.ordinal) c.of.ensures) ∙ ap (option_map found_feature_seen) c.in-None.is)

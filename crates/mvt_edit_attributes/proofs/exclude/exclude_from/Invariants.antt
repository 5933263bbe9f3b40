use Rattle.std.proofs.Common.{◌≡◌, ◌++◌, map}
use Rattle.std.specs.List.{flat_map}
use Rattle.mvt_document.specs.Stands.{layer_of}
use Rattle.mvt_change.specs.ChangeStands.{step_of}
use Rattle.mvt_messages.specs.Found.{found_features}
use Rattle.mvt_layers.specs.Seen.{found_layer_seen}
use Rattle.mvt_edit_steps.specs.EachFeature.{feature_steps, layer_steps}
use Rattle.mvt_edit_attributes.specs.EachFeature.{pairs_go}
use Rattle.mvt_edit_steps.proofs.Unreadable.{bad_among}
use Rattle.mvt_edit_attributes.proofs.exclude.exclude_from.Given as goal

abbrev pub invariant-loop-feature : goal.invariant-loop-feature
invariant-loop-feature l = record {
  steps : map step_of l.steps.items ++ flat_map (feature_steps (pairs_go l.key (layer_of l.found.layer.now).items) l.found.position) l.feature-iterator ≡ map step_of l.fn.steps.items ++ layer_steps (pairs_go l.key) (found_layer_seen l.found);
  readable : bad_among (layer_of l.found.layer.now) l.found.ordinal l.feature-iterator ≡ bad_among (layer_of l.found.layer.now) l.found.ordinal (found_features (layer_of l.found.layer.now).items);
}

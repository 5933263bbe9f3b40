use Rattle.std.proofs.Common.{◌≡◌}
use Rattle.mvt_document.specs.Stands.{layer_of}
use Rattle.mvt_messages.specs.Found.{found_features}
use Rattle.mvt_edit_steps.proofs.Unreadable.{bad_among}
use Rattle.mvt_edit_attributes.proofs.exclude.see_layer.Given as goal

abbrev pub invariant-loop-feature : goal.invariant-loop-feature
invariant-loop-feature l = bad_among (layer_of l.found.layer.now) l.found.ordinal l.feature-iterator ≡ bad_among (layer_of l.found.layer.now) l.found.ordinal (found_features (layer_of l.found.layer.now).items)

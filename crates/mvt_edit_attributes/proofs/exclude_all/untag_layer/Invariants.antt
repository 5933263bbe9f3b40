use Rattle.std.proofs.Common.{◌≡◌, ◌++◌, map}
use Rattle.std.specs.List.{flat_map}
use Rattle.mvt_change.specs.ChangeStands.{step_of}
use Rattle.mvt_layers.specs.Seen.{found_feature_seen}
use Rattle.mvt_edit_steps.specs.EachFeature.{feature_steps}
use Rattle.mvt_edit_attributes.specs.EachFeature.{tags_go}
use Rattle.mvt_edit_attributes.proofs.exclude_all.untag_layer.Given as goal

abbrev pub invariant-loop-feature : goal.invariant-loop-feature
invariant-loop-feature l = map step_of l.steps.items ≡ map step_of l.fn.steps.items ++ flat_map (feature_steps tags_go l.found.position) (map found_feature_seen l.yielded)

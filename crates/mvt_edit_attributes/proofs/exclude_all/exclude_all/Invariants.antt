use Rattle.std.proofs.Common.{◌≡◌, map}
use Rattle.std.specs.List.{flat_map}
use Rattle.mvt_change.specs.ChangeStands.{step_of}
use Rattle.mvt_layers.specs.Seen.{found_layer_seen}
use Rattle.mvt_edit_steps.specs.EachFeature.{layer_steps}
use Rattle.mvt_edit_attributes.specs.EachFeature.{tags_go}
use Rattle.mvt_edit_attributes.proofs.exclude_all.exclude_all.Given as goal

abbrev pub invariant-loop-found : goal.invariant-loop-found
invariant-loop-found l = map step_of l.steps.items ≡ flat_map (layer_steps (λ items. tags_go)) (map found_layer_seen l.yielded)

use Rattle.std.proofs.Common.{◌≡◌, ◌++◌, map}
use Rattle.std.specs.List.{flat_map}
use Rattle.mvt_change.specs.ChangeStands.{step_of}
use Rattle.mvt_meaning.specs.Tagging.{unreadable}
use Rattle.mvt_select.specs.Found.{layers_left}
use Rattle.mvt_edit_steps.specs.EachFeature.{layer_steps}
use Rattle.mvt_edit_attributes.specs.EachFeature.{pairs_go}
use Rattle.mvt_edit_attributes.proofs.exclude.exclude.Given as goal

abbrev pub invariant-loop-found : goal.invariant-loop-found
invariant-loop-found l = record {
  steps : map step_of l.steps.items ++ flat_map (layer_steps (pairs_go l.key)) (layers_left l.found-iterator) ≡ flat_map (layer_steps (pairs_go l.key)) (layers_left l.initial.found-iterator);
  readable : unreadable (layers_left l.found-iterator) ≡ unreadable (layers_left l.initial.found-iterator);
}

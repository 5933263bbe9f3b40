use Rattle.std.proofs.Common.{◌≡◌, ◌++◌, map}
use Rattle.std.specs.List.{flat_map}
use Rattle.mvt_change.specs.ChangeStands.{step_of}
use Rattle.mvt_meaning.specs.Tagging.{unreadable}
use Rattle.mvt_select.specs.Found.{layers_left}
use Rattle.mvt_edit_pools.specs.Pools.{compacting, keys_stay, values_stay}
use Rattle.mvt_edit_pools.proofs.compact.compact.Given as goal

abbrev pub invariant-loop-found : goal.invariant-loop-found
invariant-loop-found l = record {
  steps : map step_of l.steps.items ++ flat_map (compacting (keys_stay l.pools) (values_stay l.pools)) (layers_left l.found-iterator) ≡ flat_map (compacting (keys_stay l.pools) (values_stay l.pools)) (layers_left l.initial.found-iterator);
  readable : unreadable (layers_left l.found-iterator) ≡ unreadable (layers_left l.initial.found-iterator);
}

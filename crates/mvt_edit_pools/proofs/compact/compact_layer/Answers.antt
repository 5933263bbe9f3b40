use Rattle.std.proofs.Common.{◌++◌, map, refl, ap, ◌∙◌}
use Rattle.mvt_change.specs.ChangeStands.{step_of}
use Rattle.mvt_layers.specs.Seen.{found_layer_seen}
use Rattle.mvt_edit_pools.specs.Pools.{keys_stay, values_stay}
use Rattle.mvt_edit_pools.proofs.Steps.{layer_as_selected}
use Rattle.mvt_edit_pools.proofs.compact.compact_layer.Goals as goal

pub returns-clause-steps : goal.returns-clause-steps
returns-clause-steps c =
    let given = map step_of c.args.steps.now.items in
    c.in_ok-keep_marked.ensures
    ∙ ap (λ steps. given ++ steps) (layer_as_selected (keys_stay c.args.pools) (values_stay c.args.pools) (found_layer_seen c.args.found) _ _ _ _
    c.in_ok-marks.ensures.keys c.in_ok-marks.ensures.values refl refl)

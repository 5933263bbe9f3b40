use Rattle.std.proofs.Common.{◌≡◌, length, replicate, ap, ◌∙◌}
use Rattle.mvt_document.specs.Stands.{layer_of}
use Rattle.mvt_messages.specs.Views.{keys, values}
use Rattle.mvt_edit_pools.specs.Marks.{stays_from}
use Rattle.mvt_edit_pools.specs.Pools.{keys_stay, values_stay}
use Rattle.mvt_edit_pools.proofs.Marking.{keys_marked, values_marked}
use Rattle.mvt_edit_pools.proofs.compact.marks_of.Goals as goal

pub mark_used-requires-clause-keys : goal.mark_used-requires-clause-keys
mark_used-requires-clause-keys c = c.pool_sizes-sizes.ensures.keys ∙ ap (λ seen. length (keys seen)) c.view.ensures

pub mark_used-requires-clause-values : goal.mark_used-requires-clause-values
mark_used-requires-clause-values c = c.pool_sizes-sizes.ensures.values ∙ ap (λ seen. length (values seen)) c.view.ensures

pub returns-clause-keys : goal.returns-clause-keys
returns-clause-keys c =
    let layer = layer_of c.args.found.layer.now in
    let sizes = c.pool_sizes-sizes in
    let count : sizes.result.keys ≡ length (keys layer) = sizes.ensures.keys ∙ ap (λ seen. length (keys seen)) c.view.ensures in
    keys_marked c.args.pools layer.items sizes.result.keys c.in_ok-keys.keys.items _ (c.in_ok-keys.ensures ∙ ap (replicate sizes.result.keys) c.all_keys.ensures) c.in_ok-mark_used.ensures.keys
    ∙ ap (stays_from (keys_stay c.args.pools layer.items) 0) count

pub returns-clause-values : goal.returns-clause-values
returns-clause-values c =
    let layer = layer_of c.args.found.layer.now in
    let sizes = c.pool_sizes-sizes in
    let count : sizes.result.values ≡ length (values layer) = sizes.ensures.values ∙ ap (λ seen. length (values seen)) c.view.ensures in
    values_marked c.args.pools layer.items sizes.result.values c.in_ok-values.values.items _ (c.in_ok-values.ensures ∙ ap (replicate sizes.result.values) c.all_values.ensures) c.in_ok-mark_used.ensures.values
    ∙ ap (stays_from (values_stay c.args.pools layer.items) 0) count

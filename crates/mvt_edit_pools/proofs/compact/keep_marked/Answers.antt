use Rattle.std.proofs.Common.{◌++◌, map, append_assoc, ap, ◌∙◌}
use Rattle.mvt_document.specs.Stands.{layer_of}
use Rattle.mvt_change.specs.ChangeStands.{step_of}
use Rattle.mvt_layers.specs.Seen.{found_layer_seen}
use Rattle.mvt_edit_steps.specs.EachFeature.{layer_steps}
use Rattle.mvt_edit_pools.specs.Marks.{entry_steps, gone_by, ordinals_by, pairs_repointed}
use Rattle.mvt_edit_pools.proofs.compact.keep_marked.Goals as goal

pub returns : goal.returns
returns c =
    let at = found_layer_seen c.args.found in
    let items = (layer_of c.args.found.layer.now).items in
    let given = map step_of c.args.steps.now.items in
    let keys = c.args.marks.now.keys.items in
    let values = c.args.marks.now.values.items in
    let features = layer_steps (pairs_repointed c.as_slice.result.now c.as_slice-2.result.now) at in
    let entries = entry_steps at.1.0 (gone_by c.as_slice-3.result.now c.as_slice-4.result.now items) in
    c.in_ok-take_entries.ensures
    ∙ ap (λ steps. steps ++ entries) c.in_ok-repoint.ensures
    ∙ append_assoc given features entries
    ∙ ap (λ ordinals. given ++ (layer_steps (pairs_repointed ordinals c.as_slice-2.result.now) at ++ entries)) (c.as_slice.ensures.value ∙ c.in_ok-key_ordinals.ensures.keys)
    ∙ ap (λ ordinals. given ++ (layer_steps (pairs_repointed (ordinals_by keys) ordinals) at ++ entries)) (c.as_slice-2.ensures.value ∙ c.in_ok-key_ordinals.ensures.values)
    ∙ ap (λ marks. given ++ (layer_steps (pairs_repointed (ordinals_by keys) (ordinals_by values)) at ++ entry_steps at.1.0 (gone_by marks c.as_slice-4.result.now items))) c.as_slice-3.ensures.value
    ∙ ap (λ marks. given ++ (layer_steps (pairs_repointed (ordinals_by keys) (ordinals_by values)) at ++ entry_steps at.1.0 (gone_by keys marks items))) c.as_slice-4.ensures.value

-- The steps of a layer by marks are those of the definition.
use Rattle.std.proofs.Common.{◌≡◌, ℕ, Bool, List, ◌++◌, length, ap, ◌∙◌}
use Rattle.mvt_document.specs.Plain.{Layer, LayerItem}
use Rattle.mvt_messages.specs.Views.{keys, values}
use Rattle.mvt_edit_steps.specs.EachFeature.{layer_steps}
use Rattle.mvt_edit_pools.specs.Marks.{entry_steps, gone_by, ordinals_by, pairs_repointed, stays_from}
use Rattle.mvt_edit_pools.specs.Pools.{compacting, ordinal_fates}
use Rattle.mvt_edit_pools.proofs.Gone.{gone_same}
use Rattle.mvt_edit_pools.proofs.Repointed.{features_as_selected}

pub layer_as_selected : (keys_stay values_stay : List LayerItem → ℕ → Bool) (at : ℕ × (ℕ × Layer)) (key_marks value_marks : List Bool) (key_ordinals value_ordinals : List ℕ)
    → key_marks ≡ stays_from (keys_stay at.1.1.items) 0 (length (keys at.1.1)) → value_marks ≡ stays_from (values_stay at.1.1.items) 0 (length (values at.1.1))
    → key_ordinals ≡ ordinals_by key_marks → value_ordinals ≡ ordinals_by value_marks
    → layer_steps (pairs_repointed key_ordinals value_ordinals) at ++ entry_steps at.1.0 (gone_by key_marks value_marks at.1.1.items) ≡ compacting keys_stay values_stay at
layer_as_selected keys_stay values_stay at key_marks value_marks key_ordinals value_ordinals keys_are values_are key_numbers value_numbers =
    let layer = at.1.1 in
    let items = layer.items in
    let features = layer_steps (ordinal_fates keys_stay values_stay) at in
    let all_keys = stays_from (keys_stay items) 0 (length (keys layer)) in
    ap (λ steps. steps ++ entry_steps at.1.0 (gone_by key_marks value_marks items)) (features_as_selected keys_stay values_stay at key_ordinals value_ordinals (key_numbers ∙ ap ordinals_by keys_are) (value_numbers ∙ ap ordinals_by values_are))
    ∙ ap (λ marks. features ++ entry_steps at.1.0 (gone_by marks value_marks items)) keys_are
    ∙ ap (λ marks. features ++ entry_steps at.1.0 (gone_by all_keys marks items)) values_are
    ∙ ap (λ picked. features ++ entry_steps at.1.0 picked) (gone_same (keys_stay items) (values_stay items) items 0 0)

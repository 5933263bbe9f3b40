use Rattle.std.proofs.Common.{◌≡◌, ◌++◌, map}
use Rattle.std.specs.List.{flat_map}
use Rattle.mvt_document.specs.Stands.{layer_of}
use Rattle.mvt_change.specs.ChangeStands.{step_of}
use Rattle.mvt_layers.specs.Seen.{found_layer_seen, pair_seen}
use Rattle.mvt_edit_steps.specs.EachFeature.{feature_steps, layer_steps}
use Rattle.mvt_edit_pools.specs.Marks.{pair_counts, pairs_repointed}
use Rattle.mvt_edit_pools.proofs.Marking.{pairs_left}
use Rattle.mvt_edit_pools.proofs.repoint.repoint.Given as goal

abbrev pub invariant-loop-feature : goal.invariant-loop-feature
invariant-loop-feature l = record {
  steps : map step_of l.steps.items ++ flat_map (feature_steps (pairs_repointed l.key_ordinals l.value_ordinals (layer_of l.found.layer.now).items) l.found.position) l.feature-iterator
      ≡ map step_of l.fn.steps.items ++ layer_steps (pairs_repointed l.key_ordinals l.value_ordinals) (found_layer_seen l.found);
  pairs : map pair_seen l.pairs_left ≡ pairs_left (layer_of l.found.layer.now).items l.feature-iterator;
  counts : l.counts_left ≡ pair_counts (layer_of l.found.layer.now).items l.feature-iterator;
}

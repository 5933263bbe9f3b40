use Rattle.std.proofs.Common.{◌≡◌, ◌++◌, map}
use Rattle.mvt_layers.specs.Seen.{pair_seen}
use Rattle.mvt_document.specs.Stands.{layer_of}
use Rattle.mvt_messages.specs.Found.{found_features}
use Rattle.mvt_edit_steps.proofs.Unreadable.{bad_among}
use Rattle.mvt_edit_pools.specs.Marks.{marked, names_key, names_value, pair_counts}
use Rattle.mvt_edit_pools.proofs.Marking.{pairs_left}
use Rattle.mvt_edit_pools.proofs.used.mark_used.Given as goal

abbrev pub invariant-loop-feature : goal.invariant-loop-feature
invariant-loop-feature l = record {
  keys : marked (names_key (pairs_left (layer_of l.found.layer.now).items l.feature-iterator)) 0 l.marks.keys.items
      ≡ marked (names_key (pairs_left (layer_of l.found.layer.now).items (found_features (layer_of l.found.layer.now).items))) 0 l.initial.marks.keys.items;
  values : marked (names_value (pairs_left (layer_of l.found.layer.now).items l.feature-iterator)) 0 l.marks.values.items
      ≡ marked (names_value (pairs_left (layer_of l.found.layer.now).items (found_features (layer_of l.found.layer.now).items))) 0 l.initial.marks.values.items;
  pairs : map pair_seen l.marks.pairs.items ++ pairs_left (layer_of l.found.layer.now).items l.feature-iterator
      ≡ map pair_seen l.initial.marks.pairs.items ++ pairs_left (layer_of l.found.layer.now).items (found_features (layer_of l.found.layer.now).items);
  counts : l.marks.counts.items ++ pair_counts (layer_of l.found.layer.now).items l.feature-iterator
      ≡ l.initial.marks.counts.items ++ pair_counts (layer_of l.found.layer.now).items (found_features (layer_of l.found.layer.now).items);
  readable : bad_among (layer_of l.found.layer.now) l.found.ordinal l.feature-iterator ≡ bad_among (layer_of l.found.layer.now) l.found.ordinal (found_features (layer_of l.found.layer.now).items);
}

use Rattle.std.proofs.Common.{◌≡◌, ◌++◌, is_some, map, option_map}
use Rattle.mvt_messages.specs.Numbers.{numbers}
use Rattle.mvt_layers.specs.Seen.{feature_seen, pair_seen}
use Rattle.mvt_messages.specs.Tags.{plain_pairs, tag_pairs}
use Rattle.mvt_edit_pools.specs.Marks.{marked, names_key, names_value}
use Rattle.mvt_edit_pools.proofs.used.mark_pairs.Given as goal

abbrev pub invariant-loop-tags : goal.invariant-loop-tags
invariant-loop-tags l = record {
  keys : option_map (λ pairs. marked (names_key pairs) 0 l.marks.keys.items) (plain_pairs l.tags-iterator)
      ≡ option_map (λ pairs. marked (names_key pairs) 0 l.initial.marks.keys.items) (plain_pairs (tag_pairs l.fn.sizes.keys l.fn.sizes.values (numbers 2 (feature_seen l.feature).fields)));
  values : option_map (λ pairs. marked (names_value pairs) 0 l.marks.values.items) (plain_pairs l.tags-iterator)
      ≡ option_map (λ pairs. marked (names_value pairs) 0 l.initial.marks.values.items) (plain_pairs (tag_pairs l.fn.sizes.keys l.fn.sizes.values (numbers 2 (feature_seen l.feature).fields)));
  pairs : option_map (λ pairs. map pair_seen l.marks.pairs.items ++ pairs) (plain_pairs l.tags-iterator)
      ≡ option_map (λ pairs. map pair_seen l.initial.marks.pairs.items ++ pairs) (plain_pairs (tag_pairs l.fn.sizes.keys l.fn.sizes.values (numbers 2 (feature_seen l.feature).fields)));
  counts : l.marks.counts.items ≡ l.initial.marks.counts.items;
  read : is_some (plain_pairs l.tags-iterator) ≡ is_some (plain_pairs (tag_pairs l.fn.sizes.keys l.fn.sizes.values (numbers 2 (feature_seen l.feature).fields)));
}

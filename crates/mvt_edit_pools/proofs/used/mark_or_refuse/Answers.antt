use Rattle.std.proofs.Common.{◌≡◌, [], ◌∷◌, ◌++◌, Some, length, map, option_map, subst}
use Rattle.mvt_layers.specs.Seen.{pair_seen}
use Rattle.mvt_document.specs.Plain as plain
use Rattle.mvt_messages.specs.Numbers.{numbers}
use Rattle.mvt_messages.specs.Tags.{plain_pairs, tag_pairs}
use Rattle.mvt_edit_pools.specs.Marks.{marked, names_key, names_value}
use Rattle.mvt_edit_pools.proofs.used.mark_or_refuse.Goals as goal

pub returns-in-Ok-clause-keys : goal.returns-in-Ok-clause-keys
returns-in-Ok-clause-keys c =
    subst (λ (feature : plain.Feature). option_map (λ pairs. marked (names_key pairs) 0 c.args.marks.now.keys.items) (plain_pairs (tag_pairs c.args.sizes.keys c.args.sizes.values (numbers 2 feature.fields))) ≡ Some c.mark_and_count.new.marks.keys.items) c.view.ensures c.in-Ok.ensures.keys

pub returns-in-Ok-clause-values : goal.returns-in-Ok-clause-values
returns-in-Ok-clause-values c =
    subst (λ (feature : plain.Feature). option_map (λ pairs. marked (names_value pairs) 0 c.args.marks.now.values.items) (plain_pairs (tag_pairs c.args.sizes.keys c.args.sizes.values (numbers 2 feature.fields))) ≡ Some c.mark_and_count.new.marks.values.items) c.view.ensures c.in-Ok.ensures.values

pub returns-in-Ok-clause-pairs : goal.returns-in-Ok-clause-pairs
returns-in-Ok-clause-pairs c =
    subst (λ (feature : plain.Feature). option_map (λ pairs. map pair_seen c.args.marks.now.pairs.items ++ pairs) (plain_pairs (tag_pairs c.args.sizes.keys c.args.sizes.values (numbers 2 feature.fields))) ≡ Some (map pair_seen c.mark_and_count.new.marks.pairs.items)) c.view.ensures c.in-Ok.ensures.pairs

pub returns-in-Ok-clause-counts : goal.returns-in-Ok-clause-counts
returns-in-Ok-clause-counts c =
    subst (λ (feature : plain.Feature). option_map (λ pairs. c.args.marks.now.counts.items ++ length pairs ∷ []) (plain_pairs (tag_pairs c.args.sizes.keys c.args.sizes.values (numbers 2 feature.fields))) ≡ Some c.mark_and_count.new.marks.counts.items) c.view.ensures c.in-Ok.ensures.counts

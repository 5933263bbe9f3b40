use Rattle.std.proofs.Common.{◌≡◌, ◌++◌, length, map, option_map, slice_get}
use Rattle.std.specs.Prelude.{IsOk, IsSomeAnd}
use Rattle.mvt_messages.specs.Attributes.{pairs_of}
use Rattle.mvt_messages.specs.Numbers.{numbers}
use Rattle.mvt_messages.specs.Tags.{plain_pairs, tag_pairs}
use Rattle.mvt_messages.specs.Views.{keys, values}
use Rattle.mvt_layers.specs.Seen.{feature_seen, layer_seen, pair_seen}
use Rattle.mvt_layers.proofs.attributes.pairs.Given as goal

abbrev pub invariant-loop-tags : goal.invariant-loop-tags
invariant-loop-tags l = record {
  made : option_map (λ rest. map pair_seen l.pairs.items ++ rest) (plain_pairs l.tags-iterator) ≡ pairs_of (layer_seen l.layer) (feature_seen l.feature);
  first : IsSomeAnd (slice_get l.tags-iterator 0) IsOk → IsSomeAnd (slice_get (tag_pairs (length (keys (layer_seen l.layer))) (length (values (layer_seen l.layer))) (numbers 2 (feature_seen l.feature).fields)) 0) IsOk;
}

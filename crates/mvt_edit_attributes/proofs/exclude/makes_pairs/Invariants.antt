use Rattle.std.proofs.Common.{◌≡◌, is_some}
use Rattle.mvt_messages.specs.Numbers.{numbers}
use Rattle.mvt_layers.specs.Seen.{feature_seen}
use Rattle.mvt_messages.specs.Tags.{plain_pairs, tag_pairs}
use Rattle.mvt_edit_attributes.proofs.exclude.makes_pairs.Given as goal

abbrev pub invariant-loop-tags : goal.invariant-loop-tags
invariant-loop-tags l = is_some (plain_pairs l.tags-iterator) ≡ is_some (plain_pairs (tag_pairs l.fn.sizes.keys l.fn.sizes.values (numbers 2 (feature_seen l.fn.feature).fields)))

use Rattle.std.proofs.Common.{◌≡◌, ◌+◌, ◌++◌, ◌≤◌, drop, map}
use Rattle.mvt_layers.specs.Seen.{pair_seen}
use Rattle.mvt_edit_steps.specs.Decided.{counted_by, decided_by}
use Rattle.mvt_edit_pools.specs.Marks.{pair_repointed}
use Rattle.mvt_edit_pools.proofs.repoint.decide.Given as goal

abbrev pub invariant-loop-pair : goal.invariant-loop-pair
invariant-loop-pair l = record {
  decided : l.decisions.items ++ decided_by (pair_repointed l.key_ordinals l.value_ordinals) (map pair_seen (drop l.pair-index l.pairs)) ≡ decided_by (pair_repointed l.key_ordinals l.value_ordinals) (map pair_seen l.pairs);
  counted : l.changed + counted_by (pair_repointed l.key_ordinals l.value_ordinals) (map pair_seen (drop l.pair-index l.pairs)) ≡ counted_by (pair_repointed l.key_ordinals l.value_ordinals) (map pair_seen l.pairs);
  few : l.changed ≤ l.pair-index;
}

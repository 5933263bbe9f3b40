use Rattle.std.proofs.Common.{◌≡◌, ◌≤◌, ◌++◌, length, drop, map, vec_len, vec_capacity}
use Rattle.mvt_document.specs.Stands.{layer_item_of}
use Rattle.mvt_edit_pools.specs.Marks.{gone_by}
use Rattle.mvt_edit_pools.proofs.entries.gone.Given as goal

abbrev pub invariant-loop-index : goal.invariant-loop-index
invariant-loop-index l = record {
  so_far : l.gone.items ++ gone_by l.keys_left l.values_left (map layer_item_of (drop l.index l.items)) ≡ gone_by l.fn.keys l.fn.values (map layer_item_of l.items);
  put : vec_len l.gone ≡ l.index;
  room : length l.items ≤ vec_capacity l.gone;
}

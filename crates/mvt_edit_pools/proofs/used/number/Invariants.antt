use Rattle.std.proofs.Common.{◌≡◌, ◌++◌, ◌≤◌, length, drop, vec_len, vec_capacity}
use Rattle.mvt_edit_pools.specs.Marks.{numbered_from}
use Rattle.mvt_edit_pools.proofs.used.number.Given as goal

abbrev pub invariant-loop-stays : goal.invariant-loop-stays
invariant-loop-stays l = record {
  numbered : l.ordinals.items ++ numbered_from l.next (drop l.stays-index l.marks) ≡ numbered_from 0 l.marks;
  few : l.next ≤ l.stays-index;
  put : vec_len l.ordinals ≡ l.stays-index;
  room : length l.marks ≤ vec_capacity l.ordinals;
}

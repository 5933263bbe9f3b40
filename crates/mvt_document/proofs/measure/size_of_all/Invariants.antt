use Rattle.std.proofs.Common.{◌≡◌, ◌≤◌, length, take}
use Rattle.std.specs.List.{flat_map}
use Rattle.mvt_document.proofs.measure.size_of_all.Given as goal

abbrev pub invariant-loop-item : goal.invariant-loop-item
invariant-loop-item g l = record {
  sum : l.size ≡ length (flat_map g.T.Measured.bytes (take l.item-index l.items));
  within : l.size ≤ l.limit;
}

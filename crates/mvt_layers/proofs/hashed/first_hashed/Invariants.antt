use Rattle.std.proofs.Common.{◌≡◌, ◌≤◌, ◌+◌, ◌-◌, map}
use Rattle.mvt_document.specs.Stands.{layer_item_of}
use Rattle.mvt_layers.specs.WithId.{with_id_from}
use Rattle.mvt_layers.proofs.hashed.first_hashed.Given as goal

abbrev pub invariant-loop-position : goal.invariant-loop-position
invariant-loop-position l = record {
  start : l.start ≤ l.position;
  rest : with_id_from l.id l.first l.start (map layer_item_of l.items) ≡ with_id_from l.id (l.first + (l.position - l.start)) l.position (map layer_item_of l.items);
}

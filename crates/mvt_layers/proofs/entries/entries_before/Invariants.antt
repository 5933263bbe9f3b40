use Rattle.std.proofs.Common.{◌≡◌, ◌+◌, ◌≤◌, length, map}
use Rattle.mvt_document.specs.Stands.{layer_item_of}
use Rattle.mvt_messages.specs.Found.{placed_from}
use Rattle.mvt_layers.specs.Pools.{entry_in}
use Rattle.mvt_layers.proofs.entries.entries_before.Given as goal

abbrev pub invariant-loop-position : goal.invariant-loop-position
invariant-loop-position l = record {
  few : l.start + l.count ≤ l.position;
  rest : l.count + length (placed_from (entry_in l.number) l.position (map layer_item_of l.items)) ≡ length (placed_from (entry_in l.number) l.start (map layer_item_of l.items));
}

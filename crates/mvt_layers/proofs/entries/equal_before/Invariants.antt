use Rattle.std.proofs.Common.{◌≡◌, ◌+◌, ◌≤◌, length, map}
use Rattle.mvt_document.specs.Stands.{layer_item_of}
use Rattle.mvt_messages.specs.Found.{found_from, placed_from}
use Rattle.mvt_layers.specs.Pools.{entry_in, first_equal}
use Rattle.mvt_layers.proofs.entries.equal_before.Given as goal

abbrev pub invariant-loop-position : goal.invariant-loop-position
invariant-loop-position l = record {
  before : l.ordinal ≤ l.position;
  rest : first_equal l.bytes (found_from (entry_in l.number) l.first l.start (map layer_item_of l.items)) ≡ first_equal l.bytes (found_from (entry_in l.number) l.ordinal l.position (map layer_item_of l.items));
  count : l.first + length (placed_from (entry_in l.number) l.start (map layer_item_of l.items)) ≡ l.ordinal + length (placed_from (entry_in l.number) l.position (map layer_item_of l.items));
}

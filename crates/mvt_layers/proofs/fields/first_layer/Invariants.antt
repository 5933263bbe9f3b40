use Rattle.std.proofs.Common.{◌≡◌, ◌≤◌, map}
use Rattle.mvt_document.specs.Stands.{tile_item_of}
use Rattle.mvt_messages.specs.Found.{placed_from}
use Rattle.mvt_messages.specs.Views.{layer_in}
use Rattle.mvt_layers.proofs.fields.first_layer.Given as goal

abbrev pub invariant-loop-position : goal.invariant-loop-position
invariant-loop-position l = record {
  after : l.start ≤ l.position;
  rest : placed_from layer_in l.start (map tile_item_of l.items) ≡ placed_from layer_in l.position (map tile_item_of l.items);
}

use Rattle.std.proofs.Common.{◌≡◌, ◌≤◌, map}
use Rattle.mvt_document.specs.Stands.{layer_item_of}
use Rattle.mvt_messages.specs.Found.{placed_from}
use Rattle.mvt_messages.specs.Views.{feature_in}
use Rattle.mvt_layers.proofs.fields.first_feature.Given as goal

abbrev pub invariant-loop-position : goal.invariant-loop-position
invariant-loop-position l = record {
  after : l.start ≤ l.position;
  rest : placed_from feature_in l.start (map layer_item_of l.items) ≡ placed_from feature_in l.position (map layer_item_of l.items);
}

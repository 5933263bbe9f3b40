use Rattle.std.proofs.Common.{◌≡◌, map, length}
use Rattle.mvt_document.specs.Stands.{layer_item_of}
use Rattle.mvt_messages.specs.Views.{contents, plain_fields}
use Rattle.mvt_layers.proofs.fields.first_content.Given as goal

abbrev pub invariant-loop-item : goal.invariant-loop-item
invariant-loop-item l = contents l.number (plain_fields (map layer_item_of l.fn.items)) ≡ contents l.number (plain_fields (map layer_item_of l.rest))

abbrev pub decreases-loop-item : goal.decreases-loop-item
decreases-loop-item l = length l.rest

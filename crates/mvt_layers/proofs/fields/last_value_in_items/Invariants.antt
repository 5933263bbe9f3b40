use Rattle.std.proofs.Common.{◌≡◌, map, drop}
use Rattle.std.specs.List.{filter_map, last_or}
use Rattle.mvt_document.specs.Stands.{layer_item_of}
use Rattle.mvt_messages.specs.Views.{plain_fields, value_in}
use Rattle.mvt_layers.proofs.fields.last_value_in_items.Given as goal

abbrev pub invariant-loop-item : goal.invariant-loop-item
invariant-loop-item l = last_or l.last (filter_map (value_in l.number) (plain_fields (map layer_item_of (drop l.item-index l.items)))) ≡ last_or l.fn.before (filter_map (value_in l.number) (plain_fields (map layer_item_of l.items)))

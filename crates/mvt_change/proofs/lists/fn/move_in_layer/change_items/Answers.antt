use Rattle.mvt_change.proofs.Keeping.{layer_item_order, moved_kept}
use Rattle.mvt_change.proofs.lists.fn.move_in_layer.change_items.Goals as goal

pub returns : goal.returns
returns c = moved_kept layer_item_order c.captures.from c.captures.to c.args.list.now c.move_item.new.self c.move_item.ensures.items c.move_item.ensures.room

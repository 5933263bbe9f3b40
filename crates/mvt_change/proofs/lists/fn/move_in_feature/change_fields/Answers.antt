use Rattle.mvt_change.proofs.Keeping.{field_order, moved_kept}
use Rattle.mvt_change.proofs.lists.fn.move_in_feature.change_fields.Goals as goal

pub returns : goal.returns
returns c = moved_kept field_order c.captures.from c.captures.to c.args.list.now c.move_item.new.self c.move_item.ensures.items c.move_item.ensures.room

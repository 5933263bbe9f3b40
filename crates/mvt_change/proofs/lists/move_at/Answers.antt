use Rattle.mvt_change.proofs.Keeping.{tile_item_order, moved_kept}
use Rattle.mvt_change.proofs.lists.move_at.Goals as goal

pub move_item-requires-clause-there : goal.move_item-requires-clause-there
move_item-requires-clause-there c = let can = rw c.in-Tile.is at c.requires in can.there

pub move_item-requires-clause-within : goal.move_item-requires-clause-within
move_item-requires-clause-within c = let can = rw c.in-Tile.is at c.requires in can.within

pub move_in_layer-requires : goal.move_in_layer-requires
move_in_layer-requires c = rw c.in-Layer.is at c.requires

pub move_in_feature-requires : goal.move_in_feature-requires
move_in_feature-requires c = rw c.in-Feature.is at c.requires

pub returns-in-Tile : goal.returns-in-Tile
returns-in-Tile c = rw c.in-Tile.is (moved_kept tile_item_order c.args.from c.args.to c.args.document.now.items c.move_item.new.self c.move_item.ensures.items c.move_item.ensures.room)

pub returns-in-Layer : goal.returns-in-Layer
returns-in-Layer c = rw c.in-Layer.is c.move_in_layer.ensures

pub returns-in-Feature : goal.returns-in-Feature
returns-in-Feature c = rw c.in-Feature.is c.move_in_feature.ensures

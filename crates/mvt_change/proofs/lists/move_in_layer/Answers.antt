use Rattle.mvt_document.specs.HeldPlaces.{held_items_at}
use Rattle.mvt_document.proofs.Placing.{made_there, takes_there}
use Rattle.mvt_change.specs.Changes.{OfTheLayer}
use Rattle.mvt_change.specs.Room.{KeepsList, KeepsLayerItem}
use Rattle.mvt_change.specs.HeldChanges.{CanMoveHeld, held_moved}
use Rattle.mvt_change.proofs.HeldLenses.{made_keeps}
use Rattle.mvt_change.proofs.lists.move_in_layer.Goals as goal

pub change_items-requires : goal.change_items-requires
change_items-requires c = takes_there (held_items_at c.args.layer c.args.document.now) _ (λ list beside. CanMoveHeld c.args.from c.args.to list) c.requires

pub returns : goal.returns
returns c =
    let moved = held_moved c.args.from c.args.to in
    made_keeps (OfTheLayer c.args.layer) moved c.args.document.now c.change_items.new.self
    (made_there _ _ _ _ _ _ _ c.change_items.ensures (λ x y r v w. KeepsList KeepsLayerItem (moved x) v) (λ x y r v w met. met))

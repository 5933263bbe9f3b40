use Rattle.mvt_document.specs.HeldPlaces.{held_fields_at}
use Rattle.mvt_document.proofs.Placing.{made_there, takes_there}
use Rattle.mvt_change.specs.Changes.{OfTheFeature}
use Rattle.mvt_change.specs.Room.{KeepsList, KeepsField}
use Rattle.mvt_change.specs.HeldChanges.{CanMoveHeld, held_moved}
use Rattle.mvt_change.proofs.HeldLenses.{made_keeps}
use Rattle.mvt_change.proofs.lists.move_in_feature.Goals as goal

pub change_fields-requires : goal.change_fields-requires
change_fields-requires c = takes_there (held_fields_at c.args.layer c.args.item c.args.document.now) _ (λ list beside. CanMoveHeld c.args.from c.args.to list) c.requires

pub returns : goal.returns
returns c =
    let moved = held_moved c.args.from c.args.to in
    made_keeps (OfTheFeature c.args.layer c.args.item) moved c.args.document.now c.change_fields.new.self
    (made_there _ _ _ _ _ _ _ c.change_fields.ensures (λ x y r v w. KeepsList KeepsField (moved x) v) (λ x y r v w met. met))

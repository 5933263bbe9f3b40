use Rattle.mvt_document.specs.HeldPlaces.{held_fields_in, in_held_feature}
use Rattle.mvt_document.proofs.Placing.{MakesItem, made_in, made_there}
use Rattle.mvt_document.proofs.places.change_fields_in.Goals as goal

pub returns : goal.returns
returns g c =
    made_in g.F.FnOnce c.args.change held_fields_in in_held_feature c.args.item c.args.items.now c.change_item.new.self c.args.beside.now c.change_item.result c.change_item.new.beside
    (made_there _ _ _ _ _ _ _ c.change_item.ensures (λ item beside r made left. MakesItem g.F.FnOnce c.args.change held_fields_in in_held_feature item beside r made left) (λ x y r v w met. met))

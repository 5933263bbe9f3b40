use Rattle.std.proofs.Common.{refl, ap}
use Rattle.mvt_document.specs.declared.document.Document.{Document}
use Rattle.mvt_document.specs.HeldPlaces.{held_items_in, in_held_layer}
use Rattle.mvt_document.proofs.Placing.{MakesItem, made_in, made_there, makes_more}
use Rattle.mvt_document.proofs.document.Document.change_items.Goals as goal

pub returns : goal.returns
returns g c =
    let made = made_in g.F.FnOnce c.args.change held_items_in in_held_layer c.args.layer c.args.self.now.items c.change_item.new.self c.args.beside.now c.change_item.result c.change_item.new.beside
    (made_there _ _ _ _ _ _ _ c.change_item.ensures (λ item beside r made left. MakesItem g.F.FnOnce c.args.change held_items_in in_held_layer item beside r made left) (λ x y r v w met. met)) in
    makes_more g.F.FnOnce c.args.change _ _ _ _ _ _ _ refl (λ inner is. ap {B = Document} (λ items. record { items = items }) is) made

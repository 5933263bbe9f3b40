use Rattle.std.proofs.Common.{Some, is_ok, refl}
use Rattle.mvt_document.specs.HeldPlaces.{change_held_items}
use Rattle.mvt_document.proofs.Placing.{fields_made, made_there}
use Rattle.mvt_change.specs.Changes.{OfTheFeature}
use Rattle.mvt_change.specs.Room.{KeepsField}
use Rattle.mvt_change.specs.HeldChanges.{ExchangesFirst}
use Rattle.mvt_change.proofs.HeldLenses.{first_exchanged}
use Rattle.mvt_change.proofs.Visits.{same_puts}
use Rattle.mvt_change.proofs.features.exchange_fields.Goals as goal

pub returns-clause-kept : goal.returns-clause-kept
returns-clause-kept c = λ layer document is.
    let after = change_held_items (λ x. c.change_fields_in.new.items) layer document in
    (first_exchanged (OfTheFeature layer c.args.item) (is_ok c.change_fields_in.result) c.args.index c.args.taken c.args.put.now c.from_mut.result.now c.change_fields_in.new.beside document after c.from_mut.ensures.value
    (made_there _ _ _ _ _ _ _ (fields_made _ _ layer c.args.item document after c.from_mut.result.now c.change_fields_in.result c.change_fields_in.new.beside (Some c.args.items.now) is (c.change_fields_in.new.items, c.change_fields_in.ensures, refl)) (λ x y r v w. ExchangesFirst KeepsField c.args.index c.args.taken (is_ok r) x v y w) (λ x y r v w met. met))).0

pub returns-clause-same : goal.returns-clause-same
returns-clause-same c =
    same_puts c.change_fields_in.result c.args.index c.args.taken _ c.from_mut.result.now c.change_fields_in.new.beside c.args.put.now _ c.from_mut.ensures.value
    (made_there _ _ _ _ _ _ _ c.change_fields_in.ensures (λ x y r v w. ExchangesFirst KeepsField c.args.index c.args.taken (is_ok r) x v y w) (λ x y r v w met. met))

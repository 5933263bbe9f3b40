use Rattle.std.proofs.Common.{◌<◌, length, is_ok, arith}
use Rattle.mvt_document.specs.HeldPlaces.{held_fields_at}
use Rattle.mvt_document.proofs.Options.{some_each}
use Rattle.mvt_document.proofs.Placing.{made_there, takes_there}
use Rattle.mvt_change.specs.Changes.{OfTheFeature}
use Rattle.mvt_change.specs.Room.{KeepsField}
use Rattle.mvt_change.specs.HeldChanges.{ExchangesFirst, HasHeldPart}
use Rattle.mvt_change.proofs.HeldLenses.{first_exchanged}
use Rattle.mvt_change.proofs.lists.exchange_in_feature.Goals as goal

pub change_fields-requires : goal.change_fields-requires
change_fields-requires c =
    takes_there (held_fields_at c.args.layer c.args.item c.args.document.now) c.from_mut.result.now (λ list puts. HasHeldPart c.args.index c.args.taken list × (0 < length puts))
    (some_each (held_fields_at c.args.layer c.args.item c.args.document.now) _ _ (λ list within. (within, omega (arith, c.from_mut.ensures.len))) c.requires)

pub returns : goal.returns
returns c =
    let both = first_exchanged (OfTheFeature c.args.layer c.args.item) (is_ok c.change_fields.result) c.args.index c.args.taken c.args.put.now c.from_mut.result.now c.change_fields.new.beside c.args.document.now c.change_fields.new.self c.from_mut.ensures.value
    (made_there _ _ _ _ _ _ _ c.change_fields.ensures (λ x y r v w. ExchangesFirst KeepsField c.args.index c.args.taken (is_ok r) x v y w) (λ x y r v w met. met)) in
    record { kept = both.0; given = both.1 }

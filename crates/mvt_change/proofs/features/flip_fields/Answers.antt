use Rattle.std.proofs.Common.{length, map, refl, ap}
use Rattle.mvt_change.specs.ChangeStands.{SpliceAt}
use Rattle.mvt_change.specs.Changes.{OfTheFeature, SpliceStep}
use Rattle.mvt_change.specs.HeldLists.{plain_item}
use Rattle.mvt_change.proofs.TurnedRuns.{on_err}
use Rattle.mvt_change.proofs.features.flip_fields.Goals as goal

pub returns-in_err-exchange_fields-clause-same : goal.returns-in_err-exchange_fields-clause-same
returns-in_err-exchange_fields-clause-same c =
    let at = OfTheFeature c.in-InFeature.layer c.in-InFeature.item in
    rw c.in-InFeature.is (on_err c.from_residual.result _ (ap (λ items. SpliceStep at c.in-InFeature.index c.in-InFeature.take (map (plain_item at) items)) c.in_err-exchange_fields.ensures.same))

pub returns-clause-turned : goal.returns-clause-turned
returns-clause-turned c =
    let it = c.in-InFeature in
    rw (it.is, c.len-given.ensures)
    (λ document is.
    let given = c.in_ok-exchange_fields.ensures.given it.layer document is in
    (c.exchange_fields.new.put, refl {a = SpliceAt (OfTheFeature it.layer it.item) it.index (length it.put.items) c.exchange_fields.new.put}, record { items = given.items; room = given.room }))

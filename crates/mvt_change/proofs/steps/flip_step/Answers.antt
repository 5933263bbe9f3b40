use Rattle.std.proofs.Common.{◌≡◌, true, false, Result, Ok, Err, is_ok, IsErr, length, refl}
use Rattle.mvt_change.specs.Changes.{OfTheTile, OfTheLayer, OfTheFeature}
use Rattle.mvt_change.specs.ChangeStands.{SpliceAt}
use Rattle.mvt_change.proofs.Keeping.{tile_item_order, exchanged_or_kept}
use Rattle.mvt_change.proofs.steps.flip_step.Goals as goal

-- ---- what is kept, and what leads back

err_refuses : {T E : Type 0} (r : Result T E) → IsErr r → is_ok r ≡ false
err_refuses (Ok x) err = absurd cc
err_refuses (Err e) err = refl

pub returns-in_err-exchange-in-InTile-clause-kept : goal.returns-in_err-exchange-in-InTile-clause-kept
returns-in_err-exchange-in-InTile-clause-kept c =
    let tile = c.in-InTile in
    let kept = c.in_err-exchange-in-InTile.ensures in
    rw (err_refuses c.from_residual.result c.from_residual.ensures.0) (exchanged_or_kept tile_item_order false tile.index tile.take tile.put c.args.document.now.items c.exchange.new.self kept.items kept.room)

pub returns-in_ok-exchange-in-InTile-clause-kept : goal.returns-in_ok-exchange-in-InTile-clause-kept
returns-in_ok-exchange-in-InTile-clause-kept c =
    let tile = c.in-InTile in
    rw c.in-InTile.is (exchanged_or_kept tile_item_order true tile.index tile.take tile.put c.args.document.now.items c.exchange.new.self c.in_ok-exchange-in-InTile.ensures.items c.in_ok-exchange-in-InTile.ensures.room)

pub returns-in_ok-exchange-in-InTile-clause-turned : goal.returns-in_ok-exchange-in-InTile-clause-turned
returns-in_ok-exchange-in-InTile-clause-turned c =
    let done = c.in_ok-exchange-in-InTile.ensures in
    rw (c.in-InTile.is, c.len-given.ensures) (c.exchange.new.put, refl {a = SpliceAt OfTheTile c.in-InTile.index (length c.in-InTile.put.items) c.exchange.new.put}, record { items = done.put; room = done.put_room })

pub returns-in_ok-exchange_in_layer-in-InLayer-clause-turned : goal.returns-in_ok-exchange_in_layer-in-InLayer-clause-turned
returns-in_ok-exchange_in_layer-in-InLayer-clause-turned c =
    let given = c.in_ok-exchange_in_layer-in-InLayer.ensures.given in
    rw (c.in-InLayer.is, c.len-given-in-InLayer.ensures) (c.exchange_in_layer.new.put, refl {a = SpliceAt (OfTheLayer c.in-InLayer.layer) c.in-InLayer.index (length c.in-InLayer.put.items) c.exchange_in_layer.new.put}, record { items = given.items; room = given.room })

pub returns-in_ok-exchange_in_feature-in-InFeature-clause-turned : goal.returns-in_ok-exchange_in_feature-in-InFeature-clause-turned
returns-in_ok-exchange_in_feature-in-InFeature-clause-turned c =
    let given = c.in_ok-exchange_in_feature-in-InFeature.ensures.given in
    rw (c.in-InFeature.is, c.len-given-in-InFeature.ensures) (c.exchange_in_feature.new.put, refl {a = SpliceAt (OfTheFeature c.in-InFeature.layer c.in-InFeature.item) c.in-InFeature.index (length c.in-InFeature.put.items) c.exchange_in_feature.new.put}, record { items = given.items; room = given.room })

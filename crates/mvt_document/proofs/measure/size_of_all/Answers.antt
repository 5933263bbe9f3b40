use Rattle.std.proofs.Common.{arith}
use Rattle.mvt_document.proofs.Sizes.{item_within}
use Rattle.mvt_document.proofs.measure.size_of_all.Goals as goal

pub returns-in_err-size_within : goal.returns-in_err-size_within
returns-in_err-size_within g c =
    let within = item_within g.T.Measured.bytes c.args.items.now c.loop-item.item-index c.item-item.result c.loop-item-test.true c.item-item.is in
    rw c.from_residual.ensures (λ h. c.in_err-size_within.ensures (omega arith))

pub returns-in_err-size : goal.returns-in_err-size
returns-in_err-size g c =
    let within = item_within g.T.Measured.bytes c.args.items.now c.loop-item.item-index c.item-item.result c.loop-item-test.true c.item-item.is in
    rw c.from_residual-in_err-size.ensures (λ h. c.in_err-size.ensures (omega (arith, c.in_ok-size_within.ensures.1)))

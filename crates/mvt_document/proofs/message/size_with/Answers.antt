use Rattle.std.proofs.Common.{arith}
use Rattle.mvt_document.proofs.Beside.{item_and_beside, known_so}
use Rattle.mvt_document.proofs.message.size_with.Goals as goal

pub returns : goal.returns
returns g c =
    let beside = rw c.in_ok-beside.was at c.requires in
    let item = c.in_ok-item.ensures.lookup in
    let whole = item_and_beside g.T.Measured.bytes c.args.items.now c.args.index c.in_ok-item.item.now item.3.0 item.1 in
    known_so _ c.sum_within.result _ _ c.sum_within.ensures (omega (arith, beside, whole, c.in_ok-size.ensures.1))

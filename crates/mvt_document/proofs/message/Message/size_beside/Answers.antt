use Rattle.std.proofs.Common.{arith}
use Rattle.mvt_document.proofs.Beside.{item_and_beside}
use Rattle.mvt_document.proofs.message.Message.size_beside.Goals as goal

pub overflow_sub-result : goal.overflow_sub-result
overflow_sub-result g c =
    let sum = rw (← c.size.ensures, c.in_ok-sum.was) at c.self.invariant.0 in
    let item = rw c.deref.ensures.value at c.in_ok-item.ensures.lookup in
    let whole = item_and_beside g.T.Measured.bytes c.self.inside.inner.items c.args.index c.in_ok-item.item.now item.3.0 item.1 in
    omega (arith, sum, whole, c.in_ok-size.ensures.1)

pub returns : goal.returns
returns g c =
    let sum = rw (← c.size.ensures, c.in_ok-sum.was) at c.self.invariant.0 in
    let item = rw c.deref.ensures.value at c.in_ok-item.ensures.lookup in
    let whole = item_and_beside g.T.Measured.bytes c.self.inside.inner.items c.args.index c.in_ok-item.item.now item.3.0 item.1 in
    rw (← c.self.view_is) (omega (arith, sum, whole, c.in_ok-size.ensures.1))

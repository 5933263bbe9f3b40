use Rattle.std.proofs.Common.{arith}
use Rattle.mvt_document.proofs.Beside.{pushed_size, known_so}
use Rattle.mvt_document.proofs.message.Message.size_pushed.Goals as goal

pub returns : goal.returns
returns g c =
    let sum = rw (← c.size.ensures, c.in_ok-sum.was) at c.self.invariant.0 in
    let whole = pushed_size g.T.Measured.bytes c.self.inside.inner.items c.args.item.now in
    rw (← c.self.view_is) (known_so _ c.sum_within.result _ _ c.sum_within.ensures (omega (arith, sum, whole, c.in_ok-size.ensures.1)))

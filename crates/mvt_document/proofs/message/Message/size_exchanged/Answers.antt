use Rattle.std.proofs.Common.{◌≡◌, ◌+◌, ◌-◌, arith}
use Rattle.mvt_document.proofs.Beside.{part_size, spliced_size, known_so}
use Rattle.mvt_document.proofs.message.Message.size_exchanged.Goals as goal

pub overflow_sub-sum : goal.overflow_sub-sum
overflow_sub-sum g c =
    let sum = rw (← c.size.ensures, c.in_ok-sum.was) at c.self.invariant.0 in
    let within = part_size g.T.Measured.bytes c.args.index c.args.taken c.self.inside.inner.items in
    let exact : c.args.index + c.args.taken - c.args.index ≡ c.args.taken = omega arith in
    let gone = rw (c.deref.ensures.value, exact) at c.in_ok-gone.ensures.1 in
    omega (arith, sum, within, gone)

pub returns : goal.returns
returns g c =
    let sum = rw (← c.size.ensures, c.in_ok-sum.was) at c.self.invariant.0 in
    let whole = spliced_size g.T.Measured.bytes c.args.index c.args.taken c.args.put.now.items c.self.inside.inner.items in
    let within = part_size g.T.Measured.bytes c.args.index c.args.taken c.self.inside.inner.items in
    let exact : c.args.index + c.args.taken - c.args.index ≡ c.args.taken = omega arith in
    let gone = rw (c.deref.ensures.value, exact) at c.in_ok-gone.ensures.1 in
    let come = rw c.as_slice.ensures at c.in_ok-come.ensures.1 in
    rw (← c.self.view_is) (known_so _ c.sum_within.result _ _ c.sum_within.ensures (omega (arith, sum, whole, within, gone, come)))

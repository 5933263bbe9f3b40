use Rattle.std.proofs.Common.{◌≡◌, ◌+◌, ◌-◌, [], arith}
use Rattle.mvt_document.proofs.Beside.{part_size, spliced_size}
use Rattle.mvt_document.proofs.Sizes.{same_size}
use Rattle.mvt_document.proofs.message.Message.size_beside_part.Goals as goal

pub returns-in_err-part : goal.returns-in_err-part
returns-in_err-part g c =
    let sum = rw (← c.size.ensures, c.in-Some.is) at c.self.invariant.0 in
    let within = part_size g.T.Measured.bytes c.args.index c.args.count c.self.inside.inner.items in
    let exact : c.args.index + c.args.count - c.args.index ≡ c.args.count = omega arith in
    let none = rw (c.deref.ensures.value, exact) at c.in_err-part.ensures in
    absurd (none (omega (arith, sum, within)))

pub returns : goal.returns
returns g c =
    let sum = rw (← c.size.ensures, c.in-Some.is) at c.self.invariant.0 in
    let exact : c.args.index + c.args.count - c.args.index ≡ c.args.count = omega arith in
    let gone = rw (c.deref.ensures.value, exact) at c.in_ok-part.ensures.1 in
    let whole = spliced_size g.T.Measured.bytes c.args.index c.args.count [] c.self.inside.inner.items in
    rw (← c.self.view_is) (same_size c.args.limit c.sum_within.result _ _ (omega (arith, sum, whole, gone)) c.sum_within.ensures)

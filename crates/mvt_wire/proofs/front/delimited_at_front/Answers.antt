use Rattle.mvt_wire.proofs.Begins.{IsNumberAt, content_taken, content_whole, content_cut, length_missing}
use Rattle.mvt_wire.proofs.front.delimited_at_front.Goals as goal

pub returns-in_err-length-clause-none : goal.returns-in_err-length-clause-none
returns-in_err-length-clause-none c = rw c.from_residual.ensures (length_missing c.args.bytes.now c.in_err-length.ensures.none)

pub returns-then-length-rest-clause-none : goal.returns-then-length-rest-clause-none
returns-then-length-rest-clause-none c =
    let n = c.in_ok-length.length in
    let s : IsNumberAt n.value n.width c.args.bytes.now = record { within = c.in_ok-length.ensures.within; spelled = c.in_ok-length.ensures.found; valid = n.spelled } in
    content_cut n.value n.width c.args.bytes.now s (rw c.from-start.ensures at c.if-length-rest.true)

pub returns-clause-spelled : goal.returns-clause-spelled
returns-clause-spelled c =
    let n = c.in_ok-length.length in
    let s : IsNumberAt n.value n.width c.args.bytes.now = record { within = c.in_ok-length.ensures.within; spelled = c.in_ok-length.ensures.found; valid = n.spelled } in
    rw c.from-start.ensures (content_taken n.value n.width c.args.bytes.now s (rw c.from-start.ensures at c.if-length-rest.false))

pub returns-clause-whole : goal.returns-clause-whole
returns-clause-whole c =
    let n = c.in_ok-length.length in
    let s : IsNumberAt n.value n.width c.args.bytes.now = record { within = c.in_ok-length.ensures.within; spelled = c.in_ok-length.ensures.found; valid = n.spelled } in
    rw c.from-start.ensures (content_whole n.value n.width c.args.bytes.now s (rw c.from-start.ensures at c.if-length-rest.false))

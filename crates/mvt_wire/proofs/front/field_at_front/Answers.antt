use Rattle.mvt_wire.proofs.Begins.{IsNumberAt, body_front, field_taken}
use Rattle.mvt_document.specs.Bodies.{body_seen}
use Rattle.mvt_wire.proofs.front.field_at_front.Goals as goal

pub returns-in_err-body-clause-none : goal.returns-in_err-body-clause-none
returns-in_err-body-clause-none c =
    let n = c.in_ok-tag.tag in
    let s : IsNumberAt n.value n.width c.args.bytes.now = record { within = c.in_ok-tag.ensures.within; spelled = c.in_ok-tag.ensures.found; valid = n.spelled } in
    rw c.from_residual-in_err-body.ensures (λ f.
    let r = body_front n.value n.width c.args.bytes.now f.thing f.rest s f.holds.valid f.holds.stored f.spelled in
    c.in_err-body.ensures.none (record { thing = f.thing.body; holds = r.0; rest = f.rest; spelled = rw c.from-start.ensures r.1 }))

pub returns-clause-spelled : goal.returns-clause-spelled
returns-clause-spelled c =
    let n = c.in_ok-tag.tag in
    let s : IsNumberAt n.value n.width c.args.bytes.now = record { within = c.in_ok-tag.ensures.within; spelled = c.in_ok-tag.ensures.found; valid = n.spelled } in
    rw c.from-start.ensures (field_taken n.value n.width c.in_ok-body.length (body_seen c.in_ok-body.body) c.args.bytes.now s (rw c.from-start.ensures at c.in_ok-body.ensures.spelled))

use Rattle.std.proofs.Common.{arith}
use Rattle.mvt_document.specs.Bodies.{body_seen}
use Rattle.mvt_document.proofs.Spelling.{spelling_some}
use Rattle.mvt_wire.proofs.GroupSteps.{IsTagFound, start_taken, end_taken, flat_taken, tag_missing, body_missing, level_missing, end_missing}
use Rattle.mvt_wire.proofs.groups.next_in_group.Goals as goal

pub returns-in_err-tag-clause-none : goal.returns-in_err-tag-clause-none
returns-in_err-tag-clause-none c =
    rw c.from_residual.ensures (tag_missing c.args.bytes.now c.args.groups.now c.requires c.in_err-tag.ensures.none)

pub returns-in_err-open-in-3-clause-none : goal.returns-in_err-open-in-3-clause-none
returns-in_err-open-in-3-clause-none c =
    let n = c.in_ok-tag.tag in
    let t : IsTagFound n.value n.width c.args.bytes.now =
    record { at = record { within = c.in_ok-tag.ensures.within; spelled = c.in_ok-tag.ensures.found; valid = n.spelled }; low = c.in_ok-tag.ensures.low; high = c.in_ok-tag.ensures.high } in
    rw c.from_residual-in_err-open-in-3.ensures (level_missing n.value n.width c.args.bytes.now c.args.groups.now t c.requires c.in-3.is c.in_err-open-in-3.ensures.full)

pub returns-in_err-close-in-4-clause-none : goal.returns-in_err-close-in-4-clause-none
returns-in_err-close-in-4-clause-none c =
    let n = c.in_ok-tag.tag in
    let t : IsTagFound n.value n.width c.args.bytes.now =
    record { at = record { within = c.in_ok-tag.ensures.within; spelled = c.in_ok-tag.ensures.found; valid = n.spelled }; low = c.in_ok-tag.ensures.low; high = c.in_ok-tag.ensures.high } in
    rw c.from_residual-in_err-close-in-4.ensures (end_missing n.value n.width c.args.bytes.now c.args.groups.now t c.requires c.in-4.is c.in_err-close-in-4.ensures.other)

pub returns-in_err-length-in_default-clause-none : goal.returns-in_err-length-in_default-clause-none
returns-in_err-length-in_default-clause-none c =
    let n = c.in_ok-tag.tag in
    let t : IsTagFound n.value n.width c.args.bytes.now =
    record { at = record { within = c.in_ok-tag.ensures.within; spelled = c.in_ok-tag.ensures.found; valid = n.spelled }; low = c.in_ok-tag.ensures.low; high = c.in_ok-tag.ensures.high } in
    rw c.from_residual-in_err-length-in_default.ensures (body_missing n.value n.width c.args.bytes.now c.args.groups.now t c.requires (λ k. omega (arith, c.in_default, k)) (λ k. omega (arith, c.in_default, k)) (rw c.from-start.ensures at c.in_err-length-in_default.ensures.none))

pub returns-in_ok-open-in-3-clause-some : goal.returns-in_ok-open-in-3-clause-some
returns-in_ok-open-in-3-clause-some c = omega (arith, c.from-start.ensures, spelling_some c.in_ok-tag.tag.value c.in_ok-tag.tag.width c.in_ok-tag.tag.spelled)

pub returns-in_ok-open-in-3-clause-leads : goal.returns-in_ok-open-in-3-clause-leads
returns-in_ok-open-in-3-clause-leads c =
    let n = c.in_ok-tag.tag in
    let t : IsTagFound n.value n.width c.args.bytes.now =
    record { at = record { within = c.in_ok-tag.ensures.within; spelled = c.in_ok-tag.ensures.found; valid = n.spelled }; low = c.in_ok-tag.ensures.low; high = c.in_ok-tag.ensures.high } in
    rw c.from-start.ensures (start_taken n.value n.width c.args.bytes.now c.args.groups.now c.open.new.self t c.in-3.is c.requires c.in_ok-open-in-3.ensures.opened)

pub returns-in_ok-close-in-4-clause-some : goal.returns-in_ok-close-in-4-clause-some
returns-in_ok-close-in-4-clause-some c = omega (arith, c.from-start.ensures, spelling_some c.in_ok-tag.tag.value c.in_ok-tag.tag.width c.in_ok-tag.tag.spelled)

pub returns-in_ok-close-in-4-clause-leads : goal.returns-in_ok-close-in-4-clause-leads
returns-in_ok-close-in-4-clause-leads c =
    let n = c.in_ok-tag.tag in
    let t : IsTagFound n.value n.width c.args.bytes.now =
    record { at = record { within = c.in_ok-tag.ensures.within; spelled = c.in_ok-tag.ensures.found; valid = n.spelled }; low = c.in_ok-tag.ensures.low; high = c.in_ok-tag.ensures.high } in
    rw c.from-start.ensures (end_taken n.value n.width c.args.bytes.now c.args.groups.now c.close.new.self t c.in-4.is c.close.ensures.within c.in_ok-close-in-4.ensures.closed)

pub returns-in_ok-length-in_default-clause-some : goal.returns-in_ok-length-in_default-clause-some
returns-in_ok-length-in_default-clause-some c = omega (arith, c.from-start.ensures, spelling_some c.in_ok-tag.tag.value c.in_ok-tag.tag.width c.in_ok-tag.tag.spelled)

pub returns-in_ok-length-in_default-clause-leads : goal.returns-in_ok-length-in_default-clause-leads
returns-in_ok-length-in_default-clause-leads c =
    let n = c.in_ok-tag.tag in
    let t : IsTagFound n.value n.width c.args.bytes.now =
    record { at = record { within = c.in_ok-tag.ensures.within; spelled = c.in_ok-tag.ensures.found; valid = n.spelled }; low = c.in_ok-tag.ensures.low; high = c.in_ok-tag.ensures.high } in
    rw c.from-start.ensures (flat_taken n.value n.width c.in_ok-length-in_default.length (body_seen c.in_ok-length-in_default.field-0-0) c.args.bytes.now c.args.groups.now t c.requires c.in_ok-length-in_default.ensures.whole (rw c.from-start.ensures at c.in_ok-length-in_default.ensures.spelled))

use Rattle.std.proofs.Common.{arith}
use Rattle.mvt_wire.proofs.Begins.{IsNumberAt, one_front}
use Rattle.mvt_wire.proofs.front.read_tag.Goals as goal
use Rattle.mvt_wire.proofs.front.read_tag.Goals.{then-tag-lt8-via-then-tag-lt8, then-tag-lt8-via-else-tag-lt8+then-tag-gt4294967295}

pub returns-then-tag-lt8-clause-none : goal.returns-then-tag-lt8-clause-none
returns-then-tag-lt8-clause-none c = λ tag.
    let n = c.in_ok-tag.tag in
    let s : IsNumberAt n.value n.width c.args.bytes.now = record { within = c.in_ok-tag.ensures.within; spelled = c.in_ok-tag.ensures.found; valid = n.spelled } in
    let r = one_front n.value n.width tag.thing.value tag.thing.width c.args.bytes.now tag.rest s tag.holds.0 tag.spelled in
    elim c.then-tag-lt8.branch [
      | then-tag-lt8-via-then-tag-lt8 w ↦ omega (arith, r.0, tag.holds.1, tag.holds.2)
      | then-tag-lt8-via-else-tag-lt8+then-tag-gt4294967295 w ↦ omega (arith, r.0, tag.holds.1, tag.holds.2)
    ]

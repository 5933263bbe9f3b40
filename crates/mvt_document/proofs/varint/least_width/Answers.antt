use Rattle.std.proofs.Common.{◌+◌, ◌-◌, ◌/◌, ◌≡◌, subst, arith}
use Rattle.mvt_document.proofs.Steps.{IsLeastFrom, least_from-more, least_from-end}
use Rattle.mvt_document.proofs.varint.least_width.Goals as goal

pub loop-rest-preserved : goal.loop-rest-preserved
loop-rest-preserved c =
    let e : 10 - c.loop-rest.width - 1 ≡ 10 - (c.loop-rest.width + 1) = omega arith in
    (omega arith, subst (λ n. IsLeastFrom c.args.value (c.loop-rest.width + 1) (c.loop-rest.rest / 128) n) e (least_from-more c.args.value c.loop-rest.width c.loop-rest.rest (10 - c.loop-rest.width) (omega arith) c.loop-rest.invariant.1))

pub returns-clause-width : goal.returns-clause-width
returns-clause-width c =
    least_from-end c.args.value c.loop-rest.width c.loop-rest.rest (10 - c.loop-rest.width) (omega arith) c.loop-rest.invariant.1

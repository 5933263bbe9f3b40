use Rattle.std.proofs.Common.{◌≡◌, drop, ap, sym, ◌∙◌, arith}
use Rattle.mvt_splices.proofs.Gaps.{popped}
use Rattle.mvt_splices.proofs.gap.pop_few.Goals as goal

pub returns-else-count-eq0-clause-items : goal.returns-else-count-eq0-clause-items
returns-else-count-eq0-clause-items g c =
    let one : c.args.count ≡ 1 = omega arith in
    popped c.args.count c.args.ring.now.items c.pop_front.new.self.items c.pop_front.result c.pop_front.ensures.items (c.pop_front.ensures.variant.1 (omega arith)) one

pub returns-else-count-eq0-clause-ring : goal.returns-else-count-eq0-clause-ring
returns-else-count-eq0-clause-ring g c =
    let one : c.args.count ≡ 1 = omega arith in
    c.pop_front.ensures.rest ∙ ap (λ n. drop n c.args.ring.now.items) (sym one)

use Rattle.std.proofs.Common.{[], ◌∷◌, ◌++◌, drop, length, append-nil, ap, sym, ◌∙◌, arith}
use Rattle.mvt_splices.proofs.gap.exchange_one.Goals as goal

pub push_back_reserved-requires : goal.push_back_reserved-requires
push_back_reserved-requires g c =
    let popped = c.pop_few-first.ensures in
    omega (arith, c.requires.room, popped.length, popped.room, ap length c.in-Some.ensures.old)

pub returns-in-Some-clause-ring : goal.returns-in-Some-clause-ring
returns-in-Some-clause-ring g c =
    c.push_back_reserved.ensures.items
    ∙ ap (λ items. items ++ c.in-Some.item ∷ []) c.pop_few-first.ensures.ring
    ∙ ap (λ put. drop c.args.taken c.args.ring.now.items ++ put) c.in-Some.ensures.old

pub returns-in_default-clause-ring : goal.returns-in_default-clause-ring
returns-in_default-clause-ring g c =
    c.pop_few-first.ensures.ring
    ∙ sym (append-nil _)
    ∙ ap (λ put. drop c.args.taken c.args.ring.now.items ++ put) c.in_default.ensures.old

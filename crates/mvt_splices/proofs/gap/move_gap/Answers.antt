use Rattle.std.proofs.Common.{◌++◌, take, drop, ap, ◌∙◌, arith}
use Rattle.mvt_splices.proofs.Gaps.{turned_back, turned_on}
use Rattle.mvt_splices.proofs.gap.move_gap.Goals as goal
use Rattle.mvt_splices.proofs.gap.move_gap.Goals.{then-index-before, else-index-before}

pub returns-clause-items : goal.returns-clause-items
returns-clause-items g c =
    let ring = c.args.ring.now.items in
    c.turn.ensures.items ∙ elim c.if-index-before.branch [
      | then-index-before w ↦ ap (λ n. drop n ring ++ take n ring) w.count-is ∙ turned_back c.args.following c.args.index ring (omega arith)
      | else-index-before w ↦ ap (λ n. drop n ring ++ take n ring) w.count-is ∙ turned_on c.args.following _ c.args.index ring (omega arith) (omega arith) (omega arith)
    ]

use Rattle.mvt_change.proofs.Ordered.{reversed_in_order}
use Rattle.mvt_change.proofs.change.Change.in_order.Goals as goal

pub returns-then-self-clause-change : goal.returns-then-self-clause-change
returns-then-self-clause-change c = reversed_in_order c.args.self.now c.reverse.new.self.items c.if-self.true c.reverse.ensures.items

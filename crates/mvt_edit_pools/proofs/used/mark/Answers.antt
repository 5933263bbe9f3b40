use Rattle.std.proofs.Common.{arith}
use Rattle.mvt_edit_pools.proofs.Marking.{none_marked, one_marked}
use Rattle.mvt_edit_pools.proofs.used.mark.Goals as goal

pub returns-then-index-len : goal.returns-then-index-len
returns-then-index-len c = one_marked c.args.ordinal c.args.marks.now.items

pub returns-else-index-len : goal.returns-else-index-len
returns-else-index-len c = none_marked c.args.ordinal c.args.marks.now.items (omega (arith, c.if-index-len.false, c.len.ensures))

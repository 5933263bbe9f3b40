use Rattle.mvt_select.proofs.Named.{two_other}
use Rattle.mvt_select.proofs.taken.is_other.Goals as goal

pub returns-in-AmbiguousLayer : goal.returns-in-AmbiguousLayer
returns-in-AmbiguousLayer c = λ name document found. two_other name document c.args.ordinal (rw (c.in-Err.is, c.in-AmbiguousLayer.is) at found)

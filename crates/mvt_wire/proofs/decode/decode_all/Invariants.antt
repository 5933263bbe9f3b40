use Rattle.std.proofs.Common.{◌-◌, length}
use Rattle.mvt_wire.proofs.Reaches.{Reaches}
use Rattle.mvt_wire.proofs.decode.decode_all.Given as goal

abbrev pub invariant-loop-place : goal.invariant-loop-place
invariant-loop-place g l = Reaches g.T.Decode.as_field g.T.Decode.is_whole l.content l.place l.items.items

abbrev pub decreases-loop-place : goal.decreases-loop-place
decreases-loop-place g l = length l.content - l.place

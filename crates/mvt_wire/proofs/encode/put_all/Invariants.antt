use Rattle.std.proofs.Common.{drop}
use Rattle.std.specs.List.{flat_map}
use Rattle.mvt_document.specs.Fills.{Fills}
use Rattle.mvt_wire.proofs.encode.put_all.Given as goal

abbrev pub invariant-loop-index : goal.invariant-loop-index
invariant-loop-index g l = Fills l.fn.room l.room (flat_map g.T.Measured.bytes (drop l.index l.items)) l.left

use Rattle.std.proofs.Common.{◌≡◌, map, take}
use Rattle.std.specs.Prelude.{replicate}
use Rattle.mvt_document.proofs.run.leading_of.Given as goal

abbrev pub invariant-loop-index : goal.invariant-loop-index
invariant-loop-index g l = map (g.T.Item.of_kind l.kind) (take l.index l.items) ≡ replicate l.index l.wanted

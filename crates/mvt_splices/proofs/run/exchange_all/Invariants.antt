use Rattle.std.proofs.Common.{◌-◌, length}
use Rattle.mvt_document.specs.Kept.{IsKept}
use Rattle.mvt_splices.specs.Splices.{AreCarriedOut}
use Rattle.mvt_splices.proofs.run.exchange_all.Given as goal

abbrev pub invariant-loop-made : goal.invariant-loop-made
invariant-loop-made g l = record {
  made : AreCarriedOut (g.S.Splices.on_list l.place) g.S.Splices.splice_of g.S.Splices.turned g.S.Splices.roomier l.made l.fn.steps l.steps l.fn.gap l.gap;
  size : IsKept g.T.Measured.bytes l.gap.items l.size;
}

abbrev pub decreases-loop-made : goal.decreases-loop-made
decreases-loop-made g l = length l.steps - l.made

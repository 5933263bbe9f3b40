use Rattle.std.proofs.Common.{◌≡◌, ◌++◌, length, List}
use Rattle.std.specs.Slice.Iter.{chunks_rest}
use Rattle.mvt_document.specs.Runs.{AreRunsOf}
use Rattle.mvt_document.proofs.run.runs_of.Given as goal

abbrev pub invariant-loop-part : goal.invariant-loop-part
invariant-loop-part g l = record {
  before : List g.row.T.Denot;
  runs : AreRunsOf g.T.Item.of_kind l.runs before;
  seen : l.seen ≡ length before;
  whole : l.items ≡ before ++ chunks_rest l.part-iterator;
}

use Rattle.std.proofs.Common.{◌≡◌, length}
use Rattle.mvt_document.specs.Hashes.{AreHashes}
use Rattle.mvt_document.proofs.kept.push_hashes.Given as goal

abbrev pub invariant-loop-index : goal.invariant-loop-index
invariant-loop-index g l = record {
  hashes : AreHashes g.T.Item.id_hash l.hashes.items l.items;
  index : l.index ≡ length l.hashes.items;
}

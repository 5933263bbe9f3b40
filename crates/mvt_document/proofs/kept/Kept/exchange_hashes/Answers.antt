use Rattle.std.proofs.Common.{sym, subst}
use Rattle.mvt_document.specs.Hashes.{AreHashes}
use Rattle.mvt_document.specs.Splicing.{splice}
use Rattle.mvt_document.proofs.Hashing.{cut_spliced_so}
use Rattle.mvt_document.proofs.kept.Kept.exchange_hashes.Goals as goal

pub returns-then-taken-hashed-clause-hashes : goal.returns-then-taken-hashed-clause-hashes
returns-then-taken-hashed-clause-hashes g c items so =
    let f = g.T.Item.id_hash in
    let come = c.args.come.now in
    subst (λ hashes. AreHashes f hashes (splice c.args.index c.args.taken come items)) (sym c.cut_hashes.ensures.hashes)
    (cut_spliced_so f c.args.index c.args.taken come c.args.self.now.hashes items so)

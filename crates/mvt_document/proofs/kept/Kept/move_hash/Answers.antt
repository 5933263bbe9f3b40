use Rattle.std.proofs.Common.{length, take, sym, ap, subst, arith}
use Rattle.std.proofs.lemmas.List.{length-take}
use Rattle.mvt_document.specs.Hashes.{AreHashes}
use Rattle.mvt_document.specs.Splicing.{moved}
use Rattle.mvt_document.proofs.Hashing.{cut_so, moved_after, moved_within}
use Rattle.mvt_document.proofs.kept.Kept.move_hash.Goals as goal

pub returns-then-to-count-clause-hashes : goal.returns-then-to-count-clause-hashes
returns-then-to-count-clause-hashes g c =
    let f = g.T.Item.id_hash in
    let items = c.args.items.now in
    let old = c.args.self.now.hashes in
    let many = ap length c.hashes-count.ensures in
    subst (λ hashes. AreHashes f hashes (moved c.args.from c.args.to items)) (sym c.turn_hashes.ensures.hashes)
    (moved_within f c.args.from c.args.to old items (omega (arith, c.if-from-count.true, many)) (omega (arith, c.if-to-count.true, many)) c.requires.hashes)

pub returns-else-from-count-clause-hashes : goal.returns-else-from-count-clause-hashes
returns-else-from-count-clause-hashes g c =
    let f = g.T.Item.id_hash in
    let items = c.args.items.now in
    let old = c.args.self.now.hashes in
    let least = c.min.result in
    let few = length-take least old in
    subst (λ hashes. AreHashes f hashes (moved c.args.from c.args.to items)) (sym c.cut_hashes.ensures.hashes)
    (moved_after f c.args.from c.args.to (take least old) items (omega (arith, few, c.min.ensures)) (omega (arith, few, c.min.ensures)) (cut_so f least old items c.requires.hashes))

use Rattle.std.proofs.Common.{take, sym, subst, arith}
use Rattle.mvt_document.specs.Hashes.{AreHashes}
use Rattle.mvt_document.specs.Splicing.{splice}
use Rattle.mvt_document.proofs.Hashing.{all_hashes, cut_spliced_so, spliced_within}
use Rattle.mvt_document.proofs.kept.splice_hashes.Goals as goal

pub returns-then-len-come : goal.returns-then-len-come
returns-then-len-come g c items so =
    let f = g.T.Item.id_hash in
    let come = c.args.come.now in
    rw c.truncate.ensures.items (cut_spliced_so f c.args.index c.args.taken come c.args.hashes.now.items items so)

pub returns-then-is_err : goal.returns-then-is_err
returns-then-is_err g c items so =
    let f = g.T.Item.id_hash in
    let come = c.args.come.now in
    subst (λ hashes. AreHashes f hashes (splice c.args.index c.args.taken come items)) (sym c.truncate-then-is_err.ensures.items)
    (subst (λ hashes. AreHashes f (take c.args.index hashes) (splice c.args.index c.args.taken come items)) (sym (rw c.if-is_err.ensures.negation at c.exchange.ensures.list))
    (cut_spliced_so f c.args.index c.args.taken come c.args.hashes.now.items items so))

pub returns : goal.returns
returns g c items so =
    let f = g.T.Item.id_hash in
    let come = c.args.come.now in
    subst (λ hashes. AreHashes f hashes (splice c.args.index c.args.taken come items)) (sym (rw c.if-is_err.ensures.negation at c.exchange.ensures.list))
    (spliced_within f c.args.index c.args.taken come c.push_hashes.new.hashes.items c.args.hashes.now.items items (omega (arith, c.requires)) (all_hashes f c.push_hashes.new.hashes.items come (omega (arith, c.if-len-come.false)) c.push_hashes.ensures) so)

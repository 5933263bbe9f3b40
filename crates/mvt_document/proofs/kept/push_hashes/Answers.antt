use Rattle.std.proofs.Common.{◌∷◌, [], ◌++◌, sym, ap, ◌∙◌, subst, arith}
use Rattle.mvt_document.specs.Hashes.{AreHashes}
use Rattle.mvt_document.proofs.Hashing.{one_more}
use Rattle.mvt_document.proofs.kept.push_hashes.Goals as goal

pub loop-index-preserved : goal.loop-index-preserved
loop-index-preserved g c =
    let f = g.T.Item.id_hash in
    let items = c.args.items.now in
    let hashes = c.loop-index.hashes.items in
    let pushed = (rw c.if-is_err-2.ensures.negation at c.push.ensures.items) ∙ ap (λ hash. hashes ++ hash ∷ []) c.in-Some.ensures in
    record {
      hashes = subst (λ all. AreHashes f all items) (sym pushed) (one_more f c.loop-index.index c.index-items-index.result hashes items c.loop-index.invariant.index (omega (arith, c.loop-index-test.true, c.min-count.ensures)) c.index-items-index.is c.loop-index.invariant.hashes);
      index = omega (arith, c.loop-index.invariant.index, rw c.if-is_err-2.ensures.negation at c.push.ensures.len);
    }

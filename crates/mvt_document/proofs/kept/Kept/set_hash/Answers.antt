use Rattle.std.proofs.Common.{sym, ap, ◌∙◌, subst}
use Rattle.std.specs.Prelude.{slice_set}
use Rattle.mvt_document.specs.Hashes.{AreHashes}
use Rattle.mvt_document.proofs.Hashing.{cut_set_so, set_so}
use Rattle.mvt_document.proofs.kept.Kept.set_hash.Goals as goal

pub returns-in-Some-clause-hashes : goal.returns-in-Some-clause-hashes
returns-in-Some-clause-hashes g c items so =
    let f = g.T.Item.id_hash in
    let i = c.args.index in
    let x = c.args.item.now in
    subst (λ hashes. AreHashes f hashes (slice_set items i x)) (sym (c.put_hash.ensures.hashes ∙ ap (slice_set _ i) c.in-Some.ensures)) (set_so f i x _ items so)

pub returns-in-None-clause-hashes : goal.returns-in-None-clause-hashes
returns-in-None-clause-hashes g c items so =
    let f = g.T.Item.id_hash in
    let i = c.args.index in
    let x = c.args.item.now in
    subst (λ hashes. AreHashes f hashes (slice_set items i x)) (sym c.cut_hashes.ensures.hashes) (cut_set_so f i x _ items so)

use Rattle.std.proofs.Common.{◌∷◌, [], sym, subst}
use Rattle.mvt_document.specs.Hashes.{AreHashes}
use Rattle.mvt_document.specs.Kept.{IsKept}
use Rattle.mvt_document.specs.Runs.{AreRunsOf}
use Rattle.mvt_document.proofs.Hashing.{joined_so}
use Rattle.mvt_document.proofs.message.Message.push.Goals as goal

pub keep-requires-clause-runs : goal.keep-requires-clause-runs
keep-requires-clause-runs g c =
    let runs = rw (← c.self.view_is) at c.runs_pushed-runs.ensures in
    subst (AreRunsOf g.T.Item.of_kind c.runs_pushed-runs.result) (sym c.in_ok-push.ensures.items) runs

pub invariant_of-self-2 : goal.invariant_of-self-2
invariant_of-self-2 g c =
    (c.keep.ensures.size, c.keep.ensures.runs, c.keep.ensures.hashes)

pub keep-requires-clause-size : goal.keep-requires-clause-size
keep-requires-clause-size g c =
    let size = rw (← c.self.view_is) at c.size_pushed-size.ensures in
    subst (λ xs. IsKept g.T.Measured.bytes xs c.size_pushed-size.result) (sym c.in_ok-push.ensures.items) size

pub keep-requires-clause-hashes : goal.keep-requires-clause-hashes
keep-requires-clause-hashes g c =
    let f = g.T.Item.id_hash in
    let kept = c.self.inside.kept.hashes in
    subst (AreHashes f kept) (sym c.in_ok-push.ensures.items) (joined_so f kept c.self.inside.inner.items (c.args.item ∷ []) c.self.invariant.2)

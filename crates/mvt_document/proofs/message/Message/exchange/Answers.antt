use Rattle.std.proofs.Common.{◌+◌, ◌-◌, ◌≡◌, drop, length, take, refl, sym, ap, ◌∙◌, subst, arith}
use Rattle.std.specs.Prelude.{IfSome}
use Rattle.mvt_document.specs.Hashes.{AreHashes}
use Rattle.mvt_document.specs.Kept.{IsKept}
use Rattle.mvt_document.specs.Runs.{AreRunsOf}
use Rattle.mvt_document.specs.Splicing.{part, splice}
use Rattle.mvt_document.proofs.Exchanged.{part-splice}
use Rattle.mvt_document.proofs.message.Message.exchange.Goals as goal

pub keep-requires-clause-hashes : goal.keep-requires-clause-hashes
keep-requires-clause-hashes g c =
    let f = g.T.Item.id_hash in
    let index = c.args.index in
    let items = c.self.inside.inner.items in
    let put = c.args.put.now.items in
    let left = c.exchange_hashes.new.self.hashes in
    let given : index + c.len-given.result - index ≡ length put = omega (arith, c.len-given.ensures) in
    let come =
    ap (λ n. take n (drop index c.deref.result.now)) given
    ∙ ap (λ list. take (length put) (drop index list)) (c.deref.ensures.value ∙ c.in_ok-exchange_in.ensures.list)
    ∙ part-splice index c.args.taken put items (omega (arith, c.requires, ap (λ held. length held.items) c.self.view_is)) in
    subst (AreHashes f left) (sym c.in_ok-exchange_in.ensures.list)
    (subst (λ come. AreHashes f left (splice index c.args.taken come items)) come (c.exchange_hashes.ensures.hashes items c.self.invariant.2))

pub keep-requires-clause-size : goal.keep-requires-clause-size
keep-requires-clause-size g c =
    let put = c.args.put.now.items in
    let same = c.in_ok-exchange_in.ensures.list ∙ ap (λ held. splice c.args.index c.args.taken put held.items) c.self.view_is in
    subst (λ items. IsKept g.T.Measured.bytes items c.size_exchanged-size.result) (sym same) c.size_exchanged-size.ensures

pub keep-requires-clause-runs : goal.keep-requires-clause-runs
keep-requires-clause-runs g c =
    let put = c.args.put.now.items in
    let same = c.in_ok-exchange_in.ensures.list ∙ ap (λ held. splice c.args.index c.args.taken put held.items) c.self.view_is in
    subst (AreRunsOf g.T.Item.of_kind c.runs_exchanged-runs.result) (sym same) c.runs_exchanged-runs.ensures

pub invariant_of-self : goal.invariant_of-self
invariant_of-self g c =
    let same = sym c.in_err-exchange_in.ensures.list in (
      subst (λ items. IsKept g.T.Measured.bytes items c.self.inside.kept.size) same c.self.invariant.0,
      subst (λ items. IfSome c.self.inside.kept.runs (λ runs. AreRunsOf g.T.Item.of_kind runs items)) same c.self.invariant.1,
      subst (AreHashes g.T.Item.id_hash c.self.inside.kept.hashes) same c.self.invariant.2,
    )

pub invariant_of-self-2 : goal.invariant_of-self-2
invariant_of-self-2 g c = (c.keep.ensures.size, c.keep.ensures.runs, c.keep.ensures.hashes)

pub returns-clause-items : goal.returns-clause-items
returns-clause-items g c = c.in_ok-exchange_in.ensures.list ∙ ap (λ held. splice c.args.index c.args.taken c.args.put.now.items held.items) c.self.view_is

pub returns-clause-put : goal.returns-clause-put
returns-clause-put g c = c.in_ok-exchange_in.ensures.put ∙ ap (λ held. part c.args.index c.args.taken held.items) c.self.view_is

pub returns-in_err-exchange_in-clause-put_room : goal.returns-in_err-exchange_in-clause-put_room
returns-in_err-exchange_in-clause-put_room g c = c.in_err-exchange_in.ensures.put_room

pub returns-clause-put_room : goal.returns-clause-put_room
returns-clause-put_room g c = c.in_ok-exchange_in.ensures.put_room

pub returns-clause-succeeds : goal.returns-clause-succeeds
returns-clause-succeeds g c few room = refl

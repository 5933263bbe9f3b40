use Rattle.std.proofs.Common.{◌-◌, refl, ap, sym, ◌∙◌, subst}
use Rattle.std.proofs.lemmas.List.{get_or-set_same}
use Rattle.std.proofs.lemmas.Option.{slice_get_within}
use Rattle.std.specs.Prelude.{slice_set, IfSome, vec_len, vec_capacity}
use Rattle.mvt_document.specs.Hashes.{AreHashes}
use Rattle.mvt_document.specs.Kept.{IsKept}
use Rattle.mvt_document.specs.Runs.{AreRunsOf}
use Rattle.mvt_document.proofs.Beside.{beside_kept}
use Rattle.mvt_document.proofs.Options.{if_known}
use Rattle.mvt_document.proofs.Running.{runs_set}
use Rattle.mvt_document.proofs.Placing.{read_there, set_changed}
use Rattle.mvt_document.proofs.message.Message.change_item.Goals as goal

pub size_with-size-requires : goal.size_with-size-requires
size_with-size-requires g c =
    let new = c.change-result.new.arg2 in
    let same = c.as_slice.ensures.value ∙ ap (λ held. slice_set held.items c.args.index new) c.self.view_is in
    beside_kept g.T.Measured.bytes c.args.index c.size_beside-others.result c.args.self.now.items c.as_slice.result.now new same c.size_beside-others.ensures

pub invariant_of-self : goal.invariant_of-self
invariant_of-self g c =
    let items = c.self.inside.inner.items in
    let asks = rw (← c.self.view_is) at c.requires in
    let there = read_there items c.args.index c.index_mut.result.now _ c.index_mut.ensures.value asks in
    let new = c.change-result.new.arg2 in
    let same = there.1.1 c.change-result.result new c.change-result.new.arg3 (record { shown = _; given = _; shows = (refl, refl); ended = _; passed = _; met = c.change-result.ensures; leaves = (refl, refl) }) in
    let inside = slice_get_within items c.args.index c.index_mut.result.now there.0 in
    let size = rw c.as_slice.ensures.value at c.size_with-size.ensures in
    let runs = runs_set g.T.Item.of_kind c.self.inside.kept.runs items c.args.index c.index_mut.result.now new there.0 same c.self.invariant.1 in (
      subst (IsKept g.T.Measured.bytes (slice_set items c.args.index new)) (sym c.set_hash.ensures.size) (if_known c.set_size.new.self.size c.size_with-size.result _ c.set_size.ensures.size size),
      subst (λ kept. IfSome kept (λ runs. AreRunsOf g.T.Item.of_kind runs (slice_set items c.args.index new))) (sym (c.set_hash.ensures.runs ∙ c.set_size.ensures.runs)) runs,
      subst (λ x. AreHashes g.T.Item.id_hash c.set_hash.new.self.hashes (slice_set items c.args.index x)) (c.index.ensures ∙ get_or-set_same items c.args.index new _ inside)
          (c.set_hash.ensures.hashes items (subst (λ hashes. AreHashes g.T.Item.id_hash hashes items) (sym c.set_size.ensures.hashes) c.self.invariant.2)),
    )

pub returns : goal.returns
returns g c =
    let inner = c.self.inside.inner in
    let asks = rw (← c.self.view_is) at c.requires in
    let there = read_there inner.items c.args.index c.index_mut.result.now _ c.index_mut.ensures.value asks in
    let new = c.change-result.new.arg2 in
    let made = set_changed (λ x. new) c.args.index inner.items c.index_mut.result.now new there.0 refl in
    rw (← c.self.view_is, there.0) (new, record { shown = _; given = _; shows = (refl, refl); ended = _; passed = _; met = c.change-result.ensures; leaves = (refl, refl) }, λ i. record { items = made i; room = vec_capacity inner - vec_len inner })

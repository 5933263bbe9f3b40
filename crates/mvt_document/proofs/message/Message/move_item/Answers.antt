use Rattle.std.proofs.Common.{◌≡◌, ◌++◌, length, take, drop, sym, ap, ◌∙◌, subst, arith}
use Rattle.std.specs.List.{flat_map}
use Rattle.std.proofs.lemmas.List.{take_at}
use Rattle.mvt_document.specs.Hashes.{AreHashes}
use Rattle.mvt_document.specs.Runs.{AreRunsOf}
use Rattle.mvt_document.specs.Splicing.{moved}
use Rattle.mvt_document.proofs.Options.{if_kept}
use Rattle.mvt_document.proofs.Beside.{kept_so, moved_size}
use Rattle.mvt_document.proofs.message.Message.move_item.Goals as goal

pub invariant_of-self : goal.invariant_of-self
invariant_of-self g c =
    let items = c.self.inside.inner.items in
    let new = c.move_item.new.items in
    let written : take c.self.inside.inner.len (new ++ drop (length new) items) ≡ new = take_at new (drop (length new) items) c.self.inside.inner.len (omega (arith, c.move_item.auto.items, c.as_mut_slice.ensures.len)) in
    let f = g.T.Measured.bytes in
    let moves = written ∙ c.move_item.ensures ∙ ap (moved c.args.from c.args.to) c.as_mut_slice.ensures.value in
    let runs = rw (← c.self.view_is) at c.runs_moved-runs.ensures in (
      rw (c.set_runs.ensures.size, c.move_hash.ensures.size) (kept_so f items (take c.self.inside.inner.len (new ++ drop (length new) items)) c.self.inside.kept.size
          (ap (λ xs. length (flat_map f xs)) moves ∙ moved_size f c.args.from c.args.to items) c.self.invariant.0),
      if_kept c.set_runs.new.self.runs (λ kept. AreRunsOf g.T.Item.of_kind kept (take c.self.inside.inner.len (new ++ drop (length new) items))) c.runs_moved-runs.result c.set_runs.ensures.runs
          (subst (AreRunsOf g.T.Item.of_kind c.runs_moved-runs.result) (sym moves) runs),
      subst (λ hashes. AreHashes g.T.Item.id_hash hashes (take c.self.inside.inner.len (new ++ drop (length new) items))) (sym c.set_runs.ensures.hashes)
          (subst (AreHashes g.T.Item.id_hash c.move_hash.new.self.hashes) (sym moves) (rw c.as_slice.ensures.value at c.move_hash.ensures.hashes)),
    )

use Rattle.std.proofs.Common.{sym, subst}
use Rattle.std.specs.Prelude.{IfSome}
use Rattle.mvt_document.specs.Runs.{AreRunsOf}
use Rattle.mvt_document.proofs.Options.{if_kept}
use Rattle.mvt_document.proofs.message.keep_runs.Goals as goal

pub returns-then-begins_with_id-clause-runs : goal.returns-then-begins_with_id-clause-runs
returns-then-begins_with_id-clause-runs g c =
    subst (λ kept. IfSome kept (λ runs. AreRunsOf g.T.Item.of_kind runs c.args.items.now)) (sym c.add_hashes.ensures.runs)
    (if_kept c.set_runs.new.self.runs (λ runs. AreRunsOf g.T.Item.of_kind runs c.args.items.now) c.args.runs c.set_runs.ensures.runs c.requires.runs)

pub returns-else-first-count-clause-runs : goal.returns-else-first-count-clause-runs
returns-else-first-count-clause-runs g c =
    if_kept c.set_runs.new.self.runs (λ runs. AreRunsOf g.T.Item.of_kind runs c.args.items.now) c.args.runs c.set_runs.ensures.runs c.requires.runs

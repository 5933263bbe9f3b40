use Rattle.mvt_edit_pools.proofs.EntryRuns.{none_before, ones_from}
use Rattle.mvt_edit_pools.proofs.entries.is_entry_at.Goals as goal

pub returns-then-index-entries-2 : goal.returns-then-index-entries-2
returns-then-index-entries-2 c = none_before c.args.number c.args.entries c.args.items.now c.args.index c.requires.run c.if-index-entries-2.true

pub returns : goal.returns
returns c = ones_from c.args.number c.args.entries c.args.items.now c.args.index c.requires.run c.if-index-entries-2.false c.if-index-entries.false

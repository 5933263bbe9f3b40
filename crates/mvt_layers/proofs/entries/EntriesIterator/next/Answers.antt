use Rattle.std.proofs.Common.{sym, ap, ◌∙◌}
use Rattle.std.specs.List.{enumerate_from}
use Rattle.mvt_layers.proofs.entries.EntriesIterator.next.Goals as goal

pub returns-clause-steps : goal.returns-clause-steps
returns-clause-steps c = sym c.self.view_is ∙ ap (enumerate_from c.self.inside.ordinal) c.in_ok-position.ensures.found

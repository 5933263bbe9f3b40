use Rattle.run_laws.proofs.HistoryLaws.{undo_after_end}
use Rattle.run_laws.proofs.history.undo_after_end.Goals as goal

pub returns : goal.returns
returns c = undo_after_end

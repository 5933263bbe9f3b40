use Rattle.run_laws.proofs.HistoryLaws.{undo_at_once}
use Rattle.run_laws.proofs.history.undo_at_once.Goals as goal

pub returns : goal.returns
returns c = undo_at_once

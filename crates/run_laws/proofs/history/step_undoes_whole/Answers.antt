use Rattle.run_laws.proofs.HistoryLaws.{step_undoes_whole}
use Rattle.run_laws.proofs.history.step_undoes_whole.Goals as goal

pub returns : goal.returns
returns c = step_undoes_whole

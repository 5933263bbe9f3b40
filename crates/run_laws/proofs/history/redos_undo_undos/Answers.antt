use Rattle.run_laws.proofs.UndosRedos.{redos_undo_undos}
use Rattle.run_laws.proofs.history.redos_undo_undos.Goals as goal

pub returns : goal.returns
returns c = redos_undo_undos

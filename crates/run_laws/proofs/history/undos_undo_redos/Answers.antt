use Rattle.run_laws.proofs.UndosRedos.{undos_undo_redos}
use Rattle.run_laws.proofs.history.undos_undo_redos.Goals as goal

pub returns : goal.returns
returns c = undos_undo_redos

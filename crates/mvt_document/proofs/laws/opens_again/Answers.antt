use Rattle.mvt_document.proofs.Settling.{settle-settled, settled_file}
use Rattle.mvt_document.proofs.laws.opens_again.Goals as goal

pub returns-clause-kept : goal.returns-clause-kept
returns-clause-kept c = settle-settled

pub returns-clause-opens : goal.returns-clause-opens
returns-clause-opens c = settled_file

use Rattle.mvt_document.proofs.Settling.{settle_settles, bytes_of-settle}
use Rattle.mvt_document.proofs.laws.settles.Goals as goal

pub returns-clause-settled : goal.returns-clause-settled
returns-clause-settled c = settle_settles

pub returns-clause-bytes : goal.returns-clause-bytes
returns-clause-bytes c = bytes_of-settle

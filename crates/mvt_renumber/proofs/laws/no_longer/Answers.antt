use Rattle.mvt_renumber.proofs.Redone.{field_no_longer, no_longer}
use Rattle.mvt_renumber.proofs.laws.no_longer.Goals as goal

pub returns-clause-field : goal.returns-clause-field
returns-clause-field c = field_no_longer

pub returns-clause-all : goal.returns-clause-all
returns-clause-all c = no_longer

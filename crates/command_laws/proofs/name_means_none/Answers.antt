use Rattle.command_laws.proofs.SelectionLaws.{name_means_none}
use Rattle.command_laws.proofs.name_means_none.Goals as goal

pub returns : goal.returns
returns c = name_means_none

use Rattle.command_laws.proofs.SelectionLaws.{name_means_the_one}
use Rattle.command_laws.proofs.name_means_the_one.Goals as goal

pub returns : goal.returns
returns c = name_means_the_one

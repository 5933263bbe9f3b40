use Rattle.command_laws.proofs.SelectionLaws.{id_means_the_one, id_means_none}
use Rattle.command_laws.proofs.id_means_a_feature.Goals as goal

pub returns : goal.returns
returns c = record { the_one = id_means_the_one; none = id_means_none }

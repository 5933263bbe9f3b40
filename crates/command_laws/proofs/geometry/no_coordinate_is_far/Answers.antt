use Rattle.command_laws.proofs.Counted.{no_coordinate_is_far}
use Rattle.command_laws.proofs.geometry.no_coordinate_is_far.Goals as goal

pub returns : goal.returns
returns c = no_coordinate_is_far

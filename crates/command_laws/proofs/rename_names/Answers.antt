use Rattle.command_laws.proofs.Renaming.{rename_names}
use Rattle.command_laws.proofs.rename_names.Goals as goal

pub returns : goal.returns
returns c = rename_names

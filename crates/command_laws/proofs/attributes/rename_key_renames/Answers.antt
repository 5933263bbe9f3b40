use Rattle.command_laws.proofs.Renamed.{rename_key_renames}
use Rattle.command_laws.proofs.attributes.rename_key_renames.Goals as goal

pub returns : goal.returns
returns c = rename_key_renames

use Rattle.command_laws.proofs.Untagged.{exclude_all_excludes}
use Rattle.command_laws.proofs.attributes.exclude_all_excludes.Goals as goal

pub returns : goal.returns
returns c = exclude_all_excludes

use Rattle.command_laws.proofs.Excluded.{exclude_excludes}
use Rattle.command_laws.proofs.attributes.exclude_excludes.Goals as goal

pub returns : goal.returns
returns c = exclude_excludes

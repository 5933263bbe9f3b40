use Rattle.command_laws.proofs.Twice.{exclude_again_changes_nothing}
use Rattle.command_laws.proofs.attributes.exclude_again_changes_nothing.Goals as goal

pub returns : goal.returns
returns c = exclude_again_changes_nothing

use Rattle.command_laws.proofs.UnsetTwice.{unset_again_changes_nothing}
use Rattle.command_laws.proofs.attributes.unset_again_changes_nothing.Goals as goal

pub returns : goal.returns
returns c = unset_again_changes_nothing

use Rattle.command_laws.proofs.Excluded.{unset_unsets}
use Rattle.command_laws.proofs.attributes.unset_unsets.Goals as goal

pub returns : goal.returns
returns c = unset_unsets

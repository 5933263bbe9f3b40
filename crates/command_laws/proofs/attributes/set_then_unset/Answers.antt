use Rattle.command_laws.proofs.SetUnset.{set_then_unset}
use Rattle.command_laws.proofs.attributes.set_then_unset.Goals as goal

pub returns : goal.returns
returns c = set_then_unset

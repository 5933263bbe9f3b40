use Rattle.command_laws.proofs.Compacted.{compact_values_compacts}
use Rattle.command_laws.proofs.compaction.compact_values_compacts.Goals as goal

pub returns : goal.returns
returns c = compact_values_compacts

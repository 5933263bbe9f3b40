use Rattle.command_laws.proofs.Compacted.{compact_compacts}
use Rattle.command_laws.proofs.compaction.compact_compacts.Goals as goal

pub returns : goal.returns
returns c = compact_compacts

use Rattle.command_laws.proofs.Compacted.{compact_keys_compacts}
use Rattle.command_laws.proofs.compaction.compact_keys_compacts.Goals as goal

pub returns : goal.returns
returns c = compact_keys_compacts

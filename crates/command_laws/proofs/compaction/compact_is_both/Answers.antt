use Rattle.command_laws.proofs.CompactionLaws.{compact_is_both}
use Rattle.command_laws.proofs.compaction.compact_is_both.Goals as goal

pub returns : goal.returns
returns c = compact_is_both

use Rattle.command_laws.proofs.CompactionLaws.{both_change_nothing, keys_change_nothing, values_change_nothing}
use Rattle.command_laws.proofs.compaction.compact_again_changes_nothing.Goals as goal

pub returns-clause-keys : goal.returns-clause-keys
returns-clause-keys c = keys_change_nothing

pub returns-clause-values : goal.returns-clause-values
returns-clause-values c = values_change_nothing

pub returns-clause-both : goal.returns-clause-both
returns-clause-both c = both_change_nothing

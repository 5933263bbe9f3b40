use Rattle.command_laws.proofs.NeverOutOfMemory.{never_out_of_memory}
use Rattle.command_laws.proofs.no_command_is_out_of_memory.Goals as goal

pub returns : goal.returns
returns c = never_out_of_memory

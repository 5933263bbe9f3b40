-- No command is refused as out of memory by its definition.
use Rattle.std.proofs.Common.{◌≡◌, ◌≢◌, Result, Ok, Err}
use Rattle.mvt_meaning.proofs.Others.{Other}
use Rattle.mvt_meaning.specs.Meaning.{applied}
use Rattle.mvt_meaning.specs.declared.refusal.Refusal.{Refusal}
use Rattle.mvt_meaning.specs.declared.refusal.Refusal.TheVariants.{NoMemory}
use Rattle.mvt_meaning.proofs.NeverOutOfMemory.{applied_other}
use Rattle.command_laws.specs.MemoryLaws.{NoCommandIsOutOfMemory}

other_refusal : {A : Type 0} (result : Result A Refusal) → Other NoMemory result → result ≢ Err NoMemory
other_refusal (Ok x) other e = absurd cc
other_refusal (Err refusal) other e = let same : refusal ≡ NoMemory = cc in other same

pub never_out_of_memory : NoCommandIsOutOfMemory
never_out_of_memory command document = other_refusal (applied command document) (applied_other command document)

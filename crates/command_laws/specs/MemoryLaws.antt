-- A law of commands and memory.
use Rattle.std.specs.Prelude.{◌≢◌, Err}
use Rattle.mvt_document.specs.Plain.{Document}
use Rattle.mvt_meaning.specs.Command.{Command}
use Rattle.mvt_meaning.specs.Meaning.{applied}
use Rattle.mvt_meaning.specs.declared.refusal.Refusal.TheVariants.{NoMemory}

-- no command is refused as out of memory by its definition
abbrev pub NoCommandIsOutOfMemory : Type 0
NoCommandIsOutOfMemory = (command : Command) (document : Document) → applied command document ≢ Err NoMemory

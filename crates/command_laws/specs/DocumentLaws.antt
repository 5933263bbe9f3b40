-- That commands make documents of documents.
use Rattle.std.specs.Prelude.{◌≡◌, Ok}
use Rattle.mvt_document.specs.Plain.{Document}
use Rattle.mvt_document.specs.Opens.{IsDocument}
use Rattle.mvt_meaning.specs.Command.{Command, IsCommand}
use Rattle.mvt_meaning.specs.Meaning.{applied}

-- an accepted command that is valid makes a valid document of a valid document
abbrev pub CommandMakesDocument : Type 0
CommandMakesDocument = (command : Command) (document after : Document) → IsCommand command → IsDocument document → applied command document ≡ Ok after → IsDocument after

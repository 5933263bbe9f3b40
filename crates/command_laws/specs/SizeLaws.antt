-- Laws of how long a tile is after a command.
use Rattle.std.specs.Prelude.{◌≡◌, ◌≤◌, Bool, true, false, length, Ok}
use Rattle.mvt_document.specs.declared.TheConstants.{MAX_FILE}
use Rattle.mvt_document.specs.Plain.{Document}
use Rattle.mvt_document.specs.Opens.{IsDocument}
use Rattle.mvt_document.specs.Wire.{bytes_of}
use Rattle.mvt_meaning.specs.Command.{Command, RenameLayer, InsertFeature, SetId, SetAttribute, RenameKey, Shift, SetGeometry}
use Rattle.mvt_meaning.specs.Meaning.{applied}

-- the kinds of command that may make a tile longer: a rename of a layer or of a key, an insertion, a new id, a value for
-- a key, and a geometry that moves or is another
abbrev pub may_lengthen : Command → Bool
may_lengthen (RenameLayer choice name) = true
may_lengthen (InsertFeature choice index geometry) = true
may_lengthen (SetId choice feature id) = true
may_lengthen (SetAttribute choice feature key value) = true
may_lengthen (RenameKey choice old new) = true
may_lengthen (Shift choice feature dx dy) = true
may_lengthen (SetGeometry choice feature geometry) = true
may_lengthen command = false

-- an accepted command of another kind leaves a valid document with no more bytes than it had
abbrev pub NeverLonger : Type 0
NeverLonger = (command : Command) (document after : Document) → IsDocument document → may_lengthen command ≡ false → applied command document ≡ Ok after → length (bytes_of after) ≤ length (bytes_of document)

-- an accepted command on a valid document of at most 67,108,864 bytes leaves one of at most 67,108,864 bytes
abbrev pub CommandFits : Type 0
CommandFits = (command : Command) (document after : Document) → IsDocument document → length (bytes_of document) ≤ MAX_FILE → applied command document ≡ Ok after → length (bytes_of after) ≤ MAX_FILE

-- Laws of what commands take out of a tile and put into it.
use Rattle.std.specs.Prelude.{◌≡◌, ◌≤◌, length, Ok}
use Rattle.mvt_document.specs.Plain.{Document}
use Rattle.mvt_document.specs.Wire.{bytes_of}
use Rattle.mvt_meaning.specs.Command.{Command}
use Rattle.mvt_meaning.specs.Meaning.{applied}
use Rattle.mvt_meaning.specs.Weights.{put_by, taken_by}

-- a command takes no more bytes out of a tile than the tile has
abbrev pub TakenWithin : Type 0
TakenWithin = (command : Command) (document : Document) → taken_by command document ≤ length (bytes_of document)

-- an accepted command puts in no more bytes than the tile has that it makes
abbrev pub PutWithin : Type 0
PutWithin = (command : Command) (document after : Document) → applied command document ≡ Ok after → put_by command document ≤ length (bytes_of after)

-- What a run reads and writes, by how it ends.
use Rattle.std.specs.Prelude.{◌≡◌, ℕ, ◌+◌, ◌<◌, ◌≤◌, Bool, true, false, List, [], ◌∷◌, ◌++◌, length, take, Some, None, IsSome, if◌then◌else◌, ◌⊎◌}
use Rattle.mvt_document.specs.declared.TheConstants.{MAX_FILE}
use Rattle.mvt_document.specs.Plain.{Document}
use Rattle.mvt_document.specs.Opens.{OpensAs, OpensAsNothing, IsPlace}
use Rattle.mvt_document.specs.Settle.{settle}
use Rattle.tile_device.specs.Seen.{Intake, Output, nothing_read, IsPrefix}
use Rattle.tile_device.specs.declared.device.Trouble.TheVariants.{Interrupted}
use Rattle.tile_lines.specs.Lines.{lines_of, whole_lines}
use Rattle.tile_course.specs.declared.limits.TheConstants.{MAX_RETRIES, MAX_SCRIPT}
use Rattle.tile_course.specs.declared.outcome.Options.{Options}
use Rattle.tile_course.specs.declared.outcome.Outcome.{Outcome}
use Rattle.tile_course.specs.declared.outcome.Outcome.TheVariants as outcomes
use Rattle.tile_course.specs.declared.outcome.DeviceName.TheVariants as devices
use Rattle.tile_course.specs.declared.outcome.TileFault.{TileFault}
use Rattle.tile_course.specs.declared.outcome.TileFault.TheVariants as faults
use Rattle.mvt_history_steps.specs.History.{standing_document}
use Rattle.tile_course.specs.Run.{Progress, at_first, is_over, MayFollow, Walk, tile_of}

-- what was read of the tile and of the script, and written to the replies and to `out`
pub record Course : Type 0 where
  pub tile : Intake
  pub script : Intake
  pub replies : Output
  pub out : Output

-- ---- interrupted calls

-- how many interrupted calls were made again, over all devices
abbrev pub retries_in : Course → ℕ
retries_in course = course.tile.retries + course.script.retries + course.replies.retries + course.out.retries

-- at most 1,000 interrupted calls were made again over all devices, and an interruption ended the calls of a device
-- only where exactly that many were
pub record IsPatient (course : Course) : Type 0 where
  pub within : retries_in course ≤ MAX_RETRIES
  pub tile : course.tile.trouble ≡ Some Interrupted → retries_in course ≡ MAX_RETRIES
  pub script : course.script.trouble ≡ Some Interrupted → retries_in course ≡ MAX_RETRIES
  pub replies : course.replies.trouble ≡ Some Interrupted → retries_in course ≡ MAX_RETRIES
  pub out : course.out.trouble ≡ Some Interrupted → retries_in course ≡ MAX_RETRIES

-- ---- the tile

-- the tile was read to its end without trouble, and opens as the document
pub record IsOpened (tile : Intake) (document : Document) : Type 0 where
  pub whole : tile.is_whole ≡ true
  pub untroubled : tile.trouble ≡ None
  pub opens : OpensAs tile.bytes document

-- what is wrong with a file: it is too large, or it does not open as a document, and the longest prefix that does ends
-- at the place
abbrev pub IsFaultOf : TileFault → List ℕ → Type 0
IsFaultOf (faults.BadWire place) file = (length file ≤ MAX_FILE) × OpensAsNothing file × IsPlace file place
IsFaultOf faults.FileTooLarge file = MAX_FILE < length file

-- what is wrong with what was read of the tile: it is too large, or, read to its end, it does not open as a document,
-- and the longest prefix that does ends at the place
abbrev pub IsFaulty : TileFault → Intake → Type 0
IsFaulty (faults.BadWire place) tile = (tile.is_whole ≡ true) × IsFaultOf (faults.BadWire place) tile.bytes
IsFaulty faults.FileTooLarge tile = MAX_FILE < length tile.bytes

-- ---- the script

-- the lines of what was read of a script: all of them where that is the whole, else those that end with a line feed
-- within the first 16,777,216 bytes
abbrev pub lines_in : Intake → List (List ℕ)
lines_in script = if script.is_whole then lines_of script.bytes else whole_lines (take MAX_SCRIPT script.bytes)

-- a sink took these bytes without trouble
pub record IsWritten (output : Output) (bytes : List ℕ) : Type 0 where
  pub all : output.bytes ≡ bytes
  pub untroubled : output.trouble ≡ None

-- the script was read to its end, has at most 16,777,216 bytes, and each line was carried out and replied to
pub record CarriesThrough (strict : Bool) (start : Progress) (script : Intake) (output : Output) (progress : Progress) : Type 0 where
  pub whole : script.is_whole ≡ true
  pub within : length script.bytes ≤ MAX_SCRIPT
  pub untroubled : script.trouble ≡ None
  pub walk : Walk strict start (lines_in script) progress
  pub goes_on : is_over strict progress ≡ false
  pub replies : IsWritten output progress.replies

-- the run is strict, and a line was refused: it and the lines before it were carried out and replied to; a script that
-- was read to its end has at most 16,777,216 bytes
pub record StopsStrictly (strict : Bool) (start : Progress) (script : Intake) (output : Output) : Type 0 where
  pub within : script.is_whole ≡ true → length script.bytes ≤ MAX_SCRIPT
  pub untroubled : script.trouble ≡ None
  pub progress : Progress
  pub walk : Walk strict start (lines_in script) progress
  pub over : is_over strict progress ≡ true
  pub replies : IsWritten output progress.replies

-- the script met trouble or is too long: the lines that were read whole were carried out and replied to
pub record StopsAtScript (strict : Bool) (start : Progress) (script : Intake) (output : Output) : Type 0 where
  pub cause : IsSome script.trouble ⊎ (MAX_SCRIPT < length script.bytes)
  pub cut : script.is_whole ≡ false
  pub progress : Progress
  pub walk : Walk strict start (lines_in script) progress
  pub goes_on : is_over strict progress ≡ false
  pub replies : IsWritten output progress.replies

-- the reply to one of the lines met trouble: the lines before it were replied to, and of this reply a prefix was written
pub record IsCutShort (strict : Bool) (start : Progress) (lines : List (List ℕ)) (output : Output) : Type 0 where
  pub first : List (List ℕ)
  pub line : List ℕ
  pub more : List (List ℕ)
  pub split : lines ≡ first ++ line ∷ more
  pub progress : Progress
  pub walk : Walk strict start first progress
  pub goes_on : is_over strict progress ≡ false
  pub next : Progress
  pub follows : MayFollow progress line next
  pub reply : List ℕ
  pub replied : next.replies ≡ progress.replies ++ reply
  pub prefix : List ℕ
  pub is_prefix : IsPrefix prefix reply
  pub written : output.bytes ≡ progress.replies ++ prefix
  pub trouble : IsSome output.trouble

-- the script met no trouble, and the reply to one of its lines did
pub record StopsAtReplies (strict : Bool) (start : Progress) (script : Intake) (output : Output) : Type 0 where
  pub untroubled : script.trouble ≡ None
  pub cut_short : IsCutShort strict start (lines_in script) output

-- ---- how a run ends

-- the progress before the first line, on a document, by the options
abbrev pub start_of : Options → Document → Progress
start_of options document = at_first document options.depth

-- the bytes of the standing document open again, as that document with each stored width raised to the one that was
-- written (`settle`)
abbrev pub OpensAgain : Progress → Type 0
OpensAgain progress = OpensAs (tile_of progress) (settle (standing_document progress.history))

-- the tile opened, and the script was carried through
pub record RepliesToAll (options : Options) (course : Course) : Type 0 where
  pub document : Document
  pub opened : IsOpened course.tile document
  pub progress : Progress
  pub carried : CarriesThrough options.strict (start_of options document) course.script course.replies progress

-- the script was carried through, a line was refused or none as `any_refused` says, and the tile was written and opens
-- again
pub record IsEdited (options : Options) (any_refused : Bool) (course : Course) : Type 0 where
  pub through : RepliesToAll options course
  pub refused : through.progress.any_refused ≡ any_refused
  pub out : IsWritten course.out (tile_of through.progress)
  pub opens : OpensAgain through.progress

-- the script was carried through, and `out` met trouble: a prefix of the tile was written
pub record StopsAtOut (options : Options) (course : Course) : Type 0 where
  pub through : RepliesToAll options course
  pub prefix : IsPrefix course.out.bytes (tile_of through.progress)
  pub trouble : IsSome course.out.trouble

-- nothing but the tile was read, and nothing written
pub record StopsAtTile (course : Course) : Type 0 where
  pub script : course.script ≡ nothing_read
  pub replies : IsWritten course.replies []
  pub out : IsWritten course.out []

-- the tile opened, the script or its replies ended the run as `stops` says, and nothing was written to `out`
pub record StopsBetween (options : Options) (stops : Bool → Progress → Intake → Output → Type 0) (course : Course) : Type 0 where
  pub document : Document
  pub opened : IsOpened course.tile document
  pub between : stops options.strict (start_of options document) course.script course.replies
  pub out : IsWritten course.out []

-- the tile met no trouble; either the script was not read and nothing was replied, or it was carried through; then
-- memory ran out, and nothing was written to `out`
pub record StopsForMemory (options : Options) (course : Course) : Type 0 where
  pub untroubled : course.tile.trouble ≡ None
  pub replied : ((course.script ≡ nothing_read) × IsWritten course.replies []) ⊎ RepliesToAll options course
  pub out : IsWritten course.out []

-- what a run read and wrote where it ended with this outcome
abbrev pub Ends : Options → Outcome → Course → Type 0
Ends options outcomes.Done course = IsEdited options false course
Ends options outcomes.SomeRefused course = IsEdited options true course
Ends options outcomes.StrictStop course = StopsBetween options StopsStrictly course
Ends options (outcomes.TileRefused fault) course = (course.tile.trouble ≡ None) × IsFaulty fault course.tile × StopsAtTile course
Ends options (outcomes.Device devices.Tile) course = IsSome course.tile.trouble × StopsAtTile course
Ends options (outcomes.Device devices.Script) course = StopsBetween options StopsAtScript course
Ends options (outcomes.Device devices.Replies) course = StopsBetween options StopsAtReplies course
Ends options (outcomes.Device devices.Out) course = StopsAtOut options course
Ends options outcomes.NoMemory course = StopsForMemory options course

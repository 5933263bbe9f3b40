-- What is written in reply to a line.
use Rattle.std.specs.Prelude.{◌≡◌, ◌≢◌, ◌⊎◌, ℕ, List, [], ◌++◌, Result, Ok, Err, codes, decimal}
use Rattle.std.specs.Borrow.{Bor}
use Rattle.tile_lines.specs.Lines.{EndsWithALine}
use Rattle.tile_lines.specs.declared.parse_error.ParseError.TheVariants as parse
use Rattle.mvt_meaning.specs.declared.refusal.Refusal.TheVariants as edit
use Rattle.mvt_history_steps.specs.declared.error.HistoryError.TheVariants as history
use Rattle.tile_course.specs.declared.refused.Refused.{Refused}
use Rattle.tile_course.specs.declared.refused.Refused.TheVariants as refused

-- the number and the name that a reply has for a refusal: 10 to 17 for the words of a line; 20 to 43 for a command or a
-- listing; 50 to 56 for a move along the history, a mark or a step; and 60 for out of memory
abbrev pub number_and_name : Refused → ℕ × List ℕ
number_and_name (refused.Parse parse.BadUtf8) = (10, codes "BadUtf8")
number_and_name (refused.Parse parse.BadWord) = (11, codes "BadWord")
number_and_name (refused.Parse parse.UnknownCommand) = (12, codes "UnknownCommand")
number_and_name (refused.Parse parse.BadArguments) = (13, codes "BadArguments")
number_and_name (refused.Parse parse.BadNumber) = (14, codes "BadNumber")
number_and_name (refused.Parse parse.BadValue) = (15, codes "BadValue")
number_and_name (refused.Parse parse.BadGeometryText) = (16, codes "BadGeometryText")
number_and_name (refused.Parse parse.LineTooLong) = (17, codes "LineTooLong")
number_and_name (refused.Parse parse.NoMemory) = (60, codes "NoMemory")
number_and_name (refused.Edit edit.NoLayer) = (20, codes "NoLayer")
number_and_name (refused.Edit edit.AmbiguousLayer) = (21, codes "AmbiguousLayer")
number_and_name (refused.Edit edit.NoFeature) = (22, codes "NoFeature")
number_and_name (refused.Edit edit.NoKey) = (23, codes "NoKey")
number_and_name (refused.Edit edit.BadPlace) = (24, codes "BadPlace")
number_and_name (refused.Edit edit.AmbiguousFeature) = (25, codes "AmbiguousFeature")
number_and_name (refused.Edit (edit.BadTags layer feature)) = (30, codes "BadTags")
number_and_name (refused.Edit (edit.RepeatedKey layer feature)) = (31, codes "RepeatedKey")
number_and_name (refused.Edit (edit.BadGeometry layer feature)) = (32, codes "BadGeometry")
number_and_name (refused.Edit edit.NameTaken) = (40, codes "NameTaken")
number_and_name (refused.Edit edit.KeyTaken) = (41, codes "KeyTaken")
number_and_name (refused.Edit edit.OutOfRange) = (42, codes "OutOfRange")
number_and_name (refused.Edit edit.TooLarge) = (43, codes "TooLarge")
number_and_name (refused.Edit edit.NoMemory) = (60, codes "NoMemory")
number_and_name (refused.History history.NothingToUndo) = (50, codes "NothingToUndo")
number_and_name (refused.History history.NothingToRedo) = (51, codes "NothingToRedo")
number_and_name (refused.History history.NoMark) = (52, codes "NoMark")
number_and_name (refused.History history.TooManyMarks) = (53, codes "TooManyMarks")
number_and_name (refused.History (history.Stopped taken)) = (54, codes "Stopped")
number_and_name (refused.History history.GroupOpen) = (55, codes "GroupOpen")
number_and_name (refused.History history.NoGroup) = (56, codes "NoGroup")
number_and_name (refused.History history.NoMemory) = (60, codes "NoMemory")

-- the number that a reply has for a refusal
abbrev pub refusal_number : Refused → ℕ
refusal_number reason = (number_and_name reason).0

-- the name that a reply has for a refusal
abbrev pub refusal_name : Refused → List ℕ
refusal_name reason = (number_and_name reason).1

-- the reply to a request that is accepted: its lines, and then `ok`
abbrev pub accepted_reply : List ℕ → List ℕ
accepted_reply lines = lines ++ codes "ok\n"

-- the beginning of the reply to a refused line: the number of the line, and the number and the name of the refusal
abbrev pub refused_front : ℕ → Refused → List ℕ
refused_front line reason = codes "line " ++ decimal line ++ codes " refused " ++ decimal (refusal_number reason) ++ codes " " ++ refusal_name reason

-- the ordinals of the layer and of its feature that a reply names
abbrev pub place_text : ℕ → ℕ → List ℕ
place_text layer feature = codes " layer " ++ decimal layer ++ codes " feature " ++ decimal feature

-- what follows the name of a refusal: the ordinals of the layer and the feature whose tags or geometry are at fault;
-- how many steps, or commands of the open step, were taken before a request was stopped; nothing for any other refusal
abbrev pub after_name : Refused → List ℕ
after_name (refused.Edit (edit.BadTags layer feature)) = place_text layer feature
after_name (refused.Edit (edit.RepeatedKey layer feature)) = place_text layer feature
after_name (refused.Edit (edit.BadGeometry layer feature)) = place_text layer feature
after_name (refused.History (history.Stopped taken)) = codes " taken " ++ decimal taken
after_name reason = []

-- the reply to a refused line: its beginning, what follows the name of the refusal, and a line feed
abbrev pub refused_reply : ℕ → Refused → List ℕ
refused_reply line reason = refused_front line reason ++ after_name reason ++ codes "\n"

-- what a line was answered, as plain values: its lines, or its refusal
abbrev pub answer_seen : Result (Bor (List ℕ)) Refused → Result (List ℕ) Refused
answer_seen (Ok lines) = Ok lines.now
answer_seen (Err reason) = Err reason

-- the reply to the line of this number: its lines and `ok`, or its refusal
abbrev pub reply_to : ℕ → Result (List ℕ) Refused → List ℕ
reply_to line (Ok lines) = accepted_reply lines
reply_to line (Err reason) = refused_reply line reason

-- the refusal is 60 or 54: out of memory for the line, or for the rest of what it asks for
abbrev pub IsOutOfMemory : Refused → Type 0
IsOutOfMemory reason = (refusal_number reason ≡ 60) ⊎ (refusal_number reason ≡ 54)

-- no reply with the refusal 60 or 54 is at the beginning of the bytes or after a line feed in them
abbrev pub NoneIsOutOfMemory : List ℕ → Type 0
NoneIsOutOfMemory replies = (line : ℕ) (reason : Refused) (front rest : List ℕ) → EndsWithALine front → IsOutOfMemory reason → replies ≢ front ++ refused_reply line reason ++ rest

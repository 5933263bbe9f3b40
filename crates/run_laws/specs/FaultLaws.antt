-- Laws of runs that a device cuts short, or a refused line of a strict run, in the words of scripts, replies and tiles.
use Rattle.std.specs.Prelude.{◌≡◌, ◌⊎◌, ℕ, ◌+◌, ◌<◌, true, false, List, [], ◌++◌, length, take, if◌then◌else◌}
use Rattle.std.specs.List.{flat_map}
use Rattle.mvt_document.specs.Plain.{Document}
use Rattle.mvt_document.specs.Opens.{OpensAs}
use Rattle.tile_device.specs.Seen.{Intake, IsPrefix}
use Rattle.tile_lines.specs.Lines.{lines_of, whole_lines, with_feed, EndsWithALine}
use Rattle.tile_course.specs.Course.{Course, Ends, lines_in}
use Rattle.tile_course.specs.Replies.{refused_reply, IsOutOfMemory, NoneIsOutOfMemory}
use Rattle.tile_course.specs.Run.{is_over, ran, tile_of}
use Rattle.tile_course.specs.declared.limits.TheConstants.{MAX_SCRIPT}
use Rattle.tile_course.specs.declared.outcome.Options.{Options}
use Rattle.tile_course.specs.declared.outcome.Outcome.{Outcome}
use Rattle.tile_course.specs.declared.outcome.Outcome.TheVariants as outcomes
use Rattle.tile_course.specs.declared.outcome.DeviceName.TheVariants as devices
use Rattle.tile_course.specs.declared.refused.Refused.{Refused}

-- the script as far as it was read: all that was read where that is the whole, else the lines of it that end with a
-- line feed within the first 16,777,216 bytes, each with its line feed
abbrev pub script_in : Intake → List ℕ
script_in script = if script.is_whole then script.bytes else flat_map with_feed (whole_lines (take MAX_SCRIPT script.bytes))

-- the script as far as it was read is a prefix of the bytes that were read, and its lines are those of a course
-- (`lines_in`)
abbrev pub ScriptsAreReadByLines : Type 0
ScriptsAreReadByLines = (script : Intake) → IsPrefix (script_in script) script.bytes × (lines_of (script_in script) ≡ lines_in script)

-- a run of this course ended with this outcome, the tile that it read opens as the document, and no reply that it wrote
-- is 60 or 54, out of memory
pub record EndsOn (options : Options) (outcome : Outcome) (document : Document) (course : Course) : Type 0 where
  pub ends : Ends options outcome course
  pub opens : OpensAs course.tile.bytes document
  pub none_out_of_memory : NoneIsOutOfMemory course.replies.bytes

-- where `out` failed: the replies are those to the whole script, at whose end the run is not over, and what was written
-- to `out` is a prefix of its tile
abbrev pub OutFailsLast : Type 0
OutFailsLast =
    (options : Options) (document : Document) (course : Course) → EndsOn options (outcomes.Device devices.Out) document course
    → (course.replies.bytes ≡ (ran document options course.script.bytes).replies)
    × (is_over options.strict (ran document options course.script.bytes) ≡ false)
    × IsPrefix course.out.bytes (tile_of (ran document options course.script.bytes))

-- where the script failed or is too long: the replies are those to the script as far as it was read, at whose end the
-- run is not over, and nothing was written to `out`
abbrev pub ScriptFailsBetweenLines : Type 0
ScriptFailsBetweenLines =
    (options : Options) (document : Document) (course : Course) → EndsOn options (outcomes.Device devices.Script) document course
    → (course.replies.bytes ≡ (ran document options (script_in course.script)).replies)
    × (is_over options.strict (ran document options (script_in course.script)) ≡ false)
    × (course.out.bytes ≡ [])

-- where a strict run stopped: the replies are those to the script as far as it was read, at whose end the run is over,
-- and nothing was written to `out`
abbrev pub StrictRunsReplyAlike : Type 0
StrictRunsReplyAlike =
    (options : Options) (document : Document) (course : Course) → EndsOn options outcomes.StrictStop document course
    → (course.replies.bytes ≡ (ran document options (script_in course.script)).replies)
    × (is_over options.strict (ran document options (script_in course.script)) ≡ true)
    × (course.out.bytes ≡ [])

-- what was written is the replies to the first lines of a script, of which more follows, and then a beginning of the
-- reply 60 or 54, out of memory, to the next line
pub record IsCutForMemory (document : Document) (options : Options) (script : List ℕ) (written : List ℕ) : Type 0 where
  pub first : List ℕ
  pub others : List ℕ
  pub split : script ≡ first ++ others
  pub some : 0 < length others
  pub ends : EndsWithALine first
  pub reason : Refused
  pub out_of_memory : IsOutOfMemory reason
  pub beginning : List ℕ
  pub begins : IsPrefix beginning (refused_reply (length (lines_of first) + 1) reason)
  pub is : written ≡ (ran document options first).replies ++ beginning

-- where the replies failed: what was written is a prefix of those to the script as far as it was read, or was cut short
-- in a reply that is 60 or 54 (`IsCutForMemory`); nothing was written to `out`
abbrev pub RepliesAreCutShort : Type 0
RepliesAreCutShort =
    (options : Options) (document : Document) (course : Course) → EndsOn options (outcomes.Device devices.Replies) document course
    → (IsPrefix course.replies.bytes (ran document options (script_in course.script)).replies ⊎ IsCutForMemory document options (script_in course.script) course.replies.bytes)
    × (course.out.bytes ≡ [])

-- in both cases what was written up to a line feed, any of its line feeds, is a prefix of the replies to the script as
-- far as it was read
abbrev pub WholeRepliesStand : Type 0
WholeRepliesStand =
    (options : Options) (document : Document) (course : Course) (front rest : List ℕ) → EndsOn options (outcomes.Device devices.Replies) document course
    → course.replies.bytes ≡ front ++ rest → EndsWithALine front
    → IsPrefix front (ran document options (script_in course.script)).replies

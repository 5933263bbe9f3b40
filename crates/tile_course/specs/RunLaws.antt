-- Laws of whole runs, on which the contract of `run` rests.
use Rattle.std.specs.Prelude.{◌≡◌, ℕ, Bool, List, ◌++◌}
use Rattle.mvt_document.specs.Plain.{Document}
use Rattle.tile_lines.specs.Lines.{lines_of, EndsWithALine}
use Rattle.tile_course.specs.Replies.{NoneIsOutOfMemory}
use Rattle.tile_course.specs.Run.{Progress, after_lines, ran, Walk}
use Rattle.tile_course.specs.declared.outcome.Options.{Options}

-- the lines of a prefix that is empty or ends with a line feed are the first lines of the script
abbrev pub PrefixesHaveFirstLines : Type 0
PrefixesHaveFirstLines = (prefix rest : List ℕ) → EndsWithALine prefix → lines_of (prefix ++ rest) ≡ lines_of prefix ++ lines_of rest

-- the run on such a prefix gets to where the run on the whole script is after those lines, and the other lines go on
-- from there
abbrev pub PrefixesStand : Type 0
PrefixesStand =
    (document : Document) (options : Options) (prefix rest : List ℕ) → EndsWithALine prefix
    → ran document options (prefix ++ rest) ≡ after_lines options.strict (ran document options prefix) (lines_of rest)

-- where growths may be refused, and no reply says that one was, by 60 or 54, everything goes as where none is refused
abbrev pub WalksNeverOutOfMemoryAreRuns : Type 0
WalksNeverOutOfMemoryAreRuns =
    (strict : Bool) (p q : Progress) (lines : List (List ℕ)) (added : List ℕ) → Walk strict p lines q
    → q.replies ≡ p.replies ++ added → NoneIsOutOfMemory added → q ≡ after_lines strict p lines

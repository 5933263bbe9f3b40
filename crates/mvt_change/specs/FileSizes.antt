-- How many bytes something takes, where that is within the limit of a file.
use Rattle.std.specs.Prelude.{ℕ, ◌≤◌, Option, SomeIff}
use Rattle.mvt_document.specs.declared.TheConstants.{MAX_FILE}

-- the answer is this size, where that is within the limit of a file, and none where it is not
abbrev pub IsFileSize : Option ℕ → ℕ → Type 0
IsFileSize answer size = SomeIff answer (size ≤ MAX_FILE) size

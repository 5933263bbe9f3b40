-- What the forms in which a message keeps its size, its runs and its hashes stand for.
use Rattle.std.specs.Prelude.{ℕ, ◌==◌, List, [], if◌then◌else◌, Option, Some, None}
use Rattle.mvt_document.specs.declared.kept.TheConstants.{UNKNOWN}
use Rattle.mvt_document.specs.declared.kept.StoredSize.{StoredSize}
use Rattle.mvt_document.specs.declared.kept.Form.{Form}
use Rattle.mvt_document.specs.declared.kept.Form.TheVariants.{Size, WithRuns}
use Rattle.mvt_document.specs.declared.run.Runs.{Runs}

-- the size, where it is known
abbrev pub known_of : StoredSize → Option ℕ
known_of size = if size.bytes == UNKNOWN then None else Some size.bytes

-- the size that a form has, where it is known
abbrev pub size_in : Form → Option ℕ
size_in (Size size) = known_of size
size_in (WithRuns size beside) = known_of size

-- the runs that a form has, or none
abbrev pub runs_in : Form → Option Runs
runs_in (Size size) = None
runs_in (WithRuns size beside) = Some beside.value.runs

-- the hashes that a form has, or none
abbrev pub hashes_in : Form → List ℕ
hashes_in (Size size) = []
hashes_in (WithRuns size beside) = beside.value.hashes.items

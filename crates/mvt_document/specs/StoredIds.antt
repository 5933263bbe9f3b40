-- What the number in which the id of a feature is kept stands for.
use Rattle.std.specs.Prelude.{ℕ, ◌+◌, ◌*◌, ◌==◌, nat_lt, if◌then◌else◌, Option, Some, None}
use Rattle.mvt_document.specs.declared.feature.TheConstants.{FOUR_BYTES, NO_ID, UNKNOWN}
use Rattle.mvt_document.specs.declared.feature.StoredId.{StoredId}

-- the number in five bytes
abbrev pub stored_number : StoredId → ℕ
stored_number id = id.high * FOUR_BYTES + id.low

-- the number in which an id is kept, or that there is none
abbrev pub number_kept : Option ℕ → ℕ
number_kept None = NO_ID
number_kept (Some id) = if nat_lt id NO_ID then id else UNKNOWN

-- the id, or that there is none, where that is known
abbrev pub known_id : StoredId → Option (Option ℕ)
known_id id = if stored_number id == UNKNOWN then None else if stored_number id == NO_ID then Some None else Some (Some (stored_number id))

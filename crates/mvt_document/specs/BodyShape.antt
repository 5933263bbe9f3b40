-- What a field keeps of its body in addition to its wire type: the width that is stored with a length, and that a group
-- ends.
use Rattle.std.specs.Prelude.{ℕ}
use Rattle.mvt_document.specs.Plain.{Body, Delimited, Group}
use Rattle.mvt_document.specs.Groups.{IsGroup}

-- the width that is stored with the length of a body; 1 where it has no length
abbrev pub stored_width : Body → ℕ
stored_width (Delimited width bytes) = width
stored_width body = 1

-- where the body is a group, its bytes are those of a group of this number (guide, Groups)
abbrev pub EndsGroup : ℕ → Body → Type 0
EndsGroup number (Group bytes) = IsGroup number bytes
EndsGroup number body = Unit {0}

-- A message whose last VARINT field of a number gets a value.
use Rattle.std.specs.Prelude.{ℕ, ◌/◌, Bool, List, is_some}
use Rattle.mvt_document.specs.Plain.{Field}
use Rattle.mvt_messages.specs.Views.{value_in}
use Rattle.mvt_meaning.specs.Fields.{new_number, with_field_value}
use Rattle.mvt_meaning.specs.Ordinals.{put_last}

-- the field is a VARINT field of the number of this tag (guide, Message Structure)
abbrev pub is_numbered : ℕ → Field → Bool
is_numbered tag field = is_some (value_in (tag / 8) field)

-- the fields with this value in the last VARINT field of the number of this tag, or in a new one at the end (guide,
-- Message Structure)
abbrev pub with_last_number : ℕ → ℕ → List Field → List Field
with_last_number tag value fields = put_last (is_numbered tag) (with_field_value value) (new_number tag value) fields

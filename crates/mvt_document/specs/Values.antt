-- The values of the VARINT fields of a message, by their numbers.
use Rattle.std.specs.Prelude.{ℕ, ◌/◌, ◌==◌, List, Option, Some, None, if◌then◌else◌}
use Rattle.std.specs.List.{filter_map, last_or}
use Rattle.mvt_document.specs.Plain.{Body, Spelled, Field}

-- the value of a VARINT body; none for another body (guide, Message Structure)
abbrev pub value_of : Body → Option ℕ
value_of (Spelled number) = Some number.value
value_of body = None

-- the value of a VARINT field of this number; none for another field (guide, Message Structure)
abbrev pub value_in : ℕ → Field → Option ℕ
value_in number field = if field.tag.value / 8 == number then value_of field.body else None

-- the value of the last VARINT field of this number, or none (guide, Last One Wins)
abbrev pub last_value : ℕ → List Field → Option ℕ
last_value number fields = last_or None (filter_map (value_in number) fields)

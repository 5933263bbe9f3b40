-- Fields with another number or content, and new ones.
use Rattle.std.specs.Prelude.{ℕ, List}
use Rattle.mvt_document.specs.Plain.{Body, Spelled, Delimited, Field, LayerItem, OfFeature, PlainInLayer}
use Rattle.mvt_document.specs.Wire.{minimal}
pub use Rattle.mvt_renumber.specs.Renumbering.{with_number}

-- a VARINT body with this number; another body as it is
abbrev pub with_value : ℕ → Body → Body
with_value value (Spelled number) = Spelled (with_number value number)
with_value value body = body

-- the field with this number, where it is a VARINT field
abbrev pub with_field_value : ℕ → Field → Field
with_field_value value field = record field { body = with_value value field.body }

-- a LEN body with this content, and its stored width; another body as it is
abbrev pub with_content : List ℕ → Body → Body
with_content bytes (Delimited width old) = Delimited width bytes
with_content bytes body = body

-- a VARINT field with this tag, in its shortest spelling (guide, Message Structure)
abbrev pub new_number : ℕ → ℕ → Field
new_number tag value = record { tag = minimal tag; body = Spelled (minimal value) }

-- a LEN field with this tag, in its shortest spelling (guide, Message Structure)
abbrev pub new_content : ℕ → List ℕ → Field
new_content tag bytes = record { tag = minimal tag; body = Delimited 1 bytes }

-- an item of a layer with this content, where it is a LEN field
abbrev pub with_text : List ℕ → LayerItem → LayerItem
with_text bytes (OfFeature feature) = OfFeature feature
with_text bytes (PlainInLayer field) = PlainInLayer (record field { body = with_content bytes field.body })

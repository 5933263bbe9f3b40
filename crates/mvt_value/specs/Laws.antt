-- Laws of values and their bytes, and of the value of bytes as a function.
use Rattle.std.specs.Prelude.{◌≡◌, ◌↔◌, ℕ, List, [], ◌∷◌, Some}
use Rattle.std.specs.List.{flat_map, AllByRecursion}
use Rattle.mvt_document.specs.Plain.{Field}
use Rattle.mvt_document.specs.Wire.{field_bytes}
use Rattle.mvt_document.specs.Groups.{IsWholeFieldWith, IsGroup}
use Rattle.mvt_value.specs.Values.{Value}
use Rattle.mvt_value.specs.Messages.{FieldHas, HasValue, encoded_value, IsWritable}
use Rattle.mvt_value.specs.Found.{value_in}

-- the bytes of a value in range have that value
abbrev pub EncodedIsRead : Type 0
EncodedIsRead = (value : Value) → IsWritable value → HasValue (encoded_value value) value

-- bytes have at most one value
abbrev pub OneValue : Type 0
OneValue = (bytes : List ℕ) (v w : Value) → HasValue bytes v → HasValue bytes w → v ≡ w

-- a value that bytes have is in range, so it can be written
abbrev pub ReadIsInRange : Type 0
ReadIsInRange = (bytes : List ℕ) (value : Value) → HasValue bytes value → IsWritable value

-- valid fields, with each length in its stored width, whose bytes have a value are a single field, and it has that
-- value
abbrev pub OneField : Type 0
OneField = (fields : List Field) (value : Value) → AllByRecursion (IsWholeFieldWith IsGroup) fields → HasValue (flat_map field_bytes fields) value → (f : Field) × (fields ≡ f ∷ []) × FieldHas f value

-- a value is found in bytes exactly when they have it
abbrev pub ValueIn : Type 0
ValueIn = (bytes : List ℕ) (value : Value) → (value_in bytes ≡ Some value) ↔ HasValue bytes value

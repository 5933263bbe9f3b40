-- What value bytes have, and how a new value is written.
use Rattle.std.specs.Prelude.{◌≡◌, ℕ, ◌+◌, ◌*◌, ◌/◌, ◌^◌, ◌<◌, true, false, not, ◌==◌, FitsSigned, List, [], ◌∷◌, ◌++◌, length}
use Rattle.std.specs.Int.{w64}
use Rattle.mvt_document.specs.Plain.{Body, Spelled, Eight, Four, Delimited, Field}
use Rattle.mvt_document.specs.Wire.{field_bytes, shortest}
use Rattle.mvt_document.specs.Groups.{StoresField}
use Rattle.mvt_document.specs.Opens.{IsField}
use Rattle.mvt_document.specs.Signed.{zigzag}
use Rattle.mvt_value.specs.Values.{Value, OfText, OfFloat, OfDouble, OfInt, OfUint, OfSint, OfBool}
use Rattle.mvt_value.specs.Signed.{twos_complement}

-- ---- what is read

-- a field of this number with this body has this value: the table of field numbers and wire types of the message Value
-- (tiles 4.1)
abbrev pub BodyHas : ℕ → Body → Value → Type 0
BodyHas number (Delimited width bytes) (OfText text) = (number ≡ 1) × (bytes ≡ text)
BodyHas number (Four bytes) (OfFloat float) = (number ≡ 2) × (bytes ≡ float)
BodyHas number (Eight bytes) (OfDouble double) = (number ≡ 3) × (bytes ≡ double)
BodyHas number (Spelled n) (OfInt int) = (number ≡ 4) × FitsSigned w64 int × (n.value ≡ twos_complement int)
BodyHas number (Spelled n) (OfUint uint) = (number ≡ 5) × (n.value ≡ uint)
BodyHas number (Spelled n) (OfSint sint) = (number ≡ 6) × (n.value ≡ zigzag sint)
BodyHas number (Spelled n) (OfBool truth) = (number ≡ 7) × (truth ≡ not (n.value == 0))
BodyHas number body value = ⊥

-- a field, whose number is in its tag, has this value (tiles 4.1)
abbrev pub FieldHas : Field → Value → Type 0
FieldHas f value = BodyHas (f.tag.value / 8) f.body value

-- the bytes are those of one valid field, with its length, where it has one, spelled in its stored width, and the field
-- has this value (tiles 4.1)
pub record HasValue (bytes : List ℕ) (value : Value) : Type 0 where
  pub field : Field
  pub valid : IsField field
  pub stored : StoresField field
  pub spelled : field_bytes field ≡ bytes
  pub has : FieldHas field value

-- ---- what is written

-- the bytes of a new value: the tag, which is 8 times the field's number and the wire type, then a number in its
-- shortest spelling, or a length in its shortest spelling and a text, or the bytes of a float
-- (tiles 4.1; guide, Message Structure)
abbrev pub encoded_value : Value → List ℕ
encoded_value (OfText text) = (8 * 1 + 2) ∷ (shortest (length text) ++ text)
encoded_value (OfFloat float) = (8 * 2 + 5) ∷ float
encoded_value (OfDouble double) = (8 * 3 + 1) ∷ double
encoded_value (OfInt int) = (8 * 4 + 0) ∷ shortest (twos_complement int)
encoded_value (OfUint uint) = (8 * 5 + 0) ∷ shortest uint
encoded_value (OfSint sint) = (8 * 6 + 0) ∷ shortest (zigzag sint)
encoded_value (OfBool false) = (8 * 7 + 0) ∷ 0 ∷ []
encoded_value (OfBool true) = (8 * 7 + 0) ∷ 1 ∷ []

-- the value can be written: a float has 4 or 8 bytes, numbers have 64 bits, and the length of a text is below 2 ^ 64
abbrev pub IsWritable : Value → Type 0
IsWritable (OfText text) = length text < 2 ^ 64
IsWritable (OfFloat float) = length float ≡ 4
IsWritable (OfDouble double) = length double ≡ 8
IsWritable (OfInt int) = FitsSigned w64 int
IsWritable (OfUint uint) = uint < 2 ^ 64
IsWritable (OfSint sint) = FitsSigned w64 sint
IsWritable (OfBool truth) = Unit {0}

-- Laws of numbers that are decided on.
use Rattle.std.specs.Prelude.{◌≡◌, ℕ, ◌/◌, ◌^◌, ◌<◌, ◌≤◌, List, [], ◌∷◌, ◌++◌, Option, Some, IfSome, length, map, option_map}
use Rattle.std.specs.List.{flat_map, zip, AllByRecursion}
use Rattle.mvt_document.specs.Plain.{Number, Field}
use Rattle.mvt_document.specs.Wire.{spelling, field_bytes}
use Rattle.mvt_document.specs.Groups.{IsNumber}
use Rattle.mvt_document.specs.Opens.{IsField}
use Rattle.mvt_messages.specs.Numbers.{Placed, numbers, all_good}
use Rattle.mvt_renumber.specs.Renumbering.{with_number, field_numbers, renumber, renumbered, renumbered_field}
use Rattle.mvt_renumber.specs.Deciding.{packed_field}

-- the numbers in the fields of this number, where no chunk is bad (guide, Repeated Elements)
abbrev pub read_numbers : ℕ → List Field → Option (List Number)
read_numbers number fields = option_map (map (λ (p : Placed). p.number)) (all_good (numbers number fields))

-- each value that is decided on is below 2 ^ 64
abbrev pub AreShort : List (Option ℕ) → Type 0
AreShort decisions = AllByRecursion (λ decision. IfSome decision (λ value. value < 2 ^ 64)) decisions

-- the decisions by which these numbers keep their values
abbrev pub keeping : List Number → List (Option ℕ)
keeping numbers = map (λ (n : Number). Some n.value) numbers

-- each of the numbers that is decided on keeps its value or goes
abbrev pub NoneIsNew : List (Option ℕ) → List Number → Type 0
NoneIsNew decisions numbers = AllByRecursion (λ (p : Option ℕ × Number). IfSome p.0 (λ value. value ≡ p.1.value)) (zip decisions numbers)

-- each of the numbers that is decided on gets no greater value, or goes
abbrev pub NoneIsGreater : List (Option ℕ) → List Number → Type 0
NoneIsGreater decisions numbers = AllByRecursion (λ (p : Option ℕ × Number). IfSome p.0 (λ value. value ≤ p.1.value)) (zip decisions numbers)

-- where no chunk is bad, the numbers that are read from a message are those of its fields (guide, Repeated Elements)
abbrev pub ReadOfFields : Type 0
ReadOfFields = (number : ℕ) (fields : List Field) (found : List Number) → read_numbers number fields ≡ Some found → flat_map (field_numbers number) fields ≡ found

-- where no chunk is bad and each value is below 2 ^ 64, what is read after numbers were decided on is those that are
-- left, each with its spelling
abbrev pub LeftIsRead : Type 0
LeftIsRead = (number : ℕ) (decisions : List (Option ℕ)) (fields : List Field) (found : List Number) → AreShort decisions → read_numbers number fields ≡ Some found → read_numbers number (renumber number decisions fields) ≡ Some (renumbered decisions found)

-- decisions by which each number keeps its value change nothing
abbrev pub KeptStays : Type 0
KeptStays = (number : ℕ) (fields : List Field) → renumber number (keeping (flat_map (field_numbers number) fields)) fields ≡ fields

-- where each number of a field keeps its value or goes, the field does not get longer
abbrev pub FieldNoLonger : Type 0
FieldNoLonger = (number : ℕ) (decisions : List (Option ℕ)) (field : Field) → NoneIsNew decisions (field_numbers number field) → length (flat_map field_bytes (renumbered_field number decisions field)) ≤ length (field_bytes field)

-- where each number of a message keeps its value or goes, its fields together do not get longer
abbrev pub NoLonger : Type 0
NoLonger = (number : ℕ) (decisions : List (Option ℕ)) (fields : List Field) → NoneIsNew decisions (flat_map (field_numbers number) fields) → length (flat_map field_bytes (renumber number decisions fields)) ≤ length (flat_map field_bytes fields)

-- where each number of valid fields gets no greater value or goes, the fields together do not get longer
abbrev pub LowerNoLonger : Type 0
LowerNoLonger = (number : ℕ) (decisions : List (Option ℕ)) (fields : List Field) → AllByRecursion IsField fields → NoneIsGreater decisions (flat_map (field_numbers number) fields) → length (flat_map field_bytes (renumber number decisions fields)) ≤ length (flat_map field_bytes fields)

-- where one number of a packed body gets another value, the bytes before and after it stay
-- (guide, Packed Repeated Fields)
abbrev pub OthersStay : Type 0
OthersStay = (tag : Number) (width value : ℕ) (before following : List Number) (old : Number) → AllByRecursion IsNumber (before ++ old ∷ following)
    → renumber (tag.value / 8) (keeping before ++ Some value ∷ []) (packed_field tag width (flat_map spelling before ++ (spelling old ++ flat_map spelling following)) ∷ [])
    ≡ packed_field tag width (flat_map spelling before ++ (spelling (with_number value old) ++ flat_map spelling following)) ∷ []

-- where no chunk is bad, the numbers of fields that come after others are read after theirs (guide, Repeated Elements)
abbrev pub AppendedIsRead : Type 0
AppendedIsRead = (number : ℕ) (fields others : List Field) (found more : List Number) → read_numbers number fields ≡ Some found → read_numbers number others ≡ Some more → read_numbers number (fields ++ others) ≡ Some (found ++ more)

-- valid fields stay valid when their numbers are decided on, where each value is below 2 ^ 64
abbrev pub StaysValid : Type 0
StaysValid = (number : ℕ) (decisions : List (Option ℕ)) (fields : List Field) → AreShort decisions → AllByRecursion IsField fields → AllByRecursion IsField (renumber number decisions fields)

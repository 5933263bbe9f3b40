-- The numbers in the fields of one number replaced or left out, by a decision for each in order. Those that are left
-- stay in their fields, a field of which none is left goes, and the length of a packed field is that of its numbers; all
-- other bytes stay.
use Rattle.std.specs.Prelude.{ℕ, ◌==◌, Bool, true, not, List, [], ◌∷◌, ◌++◌, Option, length, drop, map, option_map, slice_index_or, if◌then◌else◌}
use Rattle.std.specs.List.{filter_map, flat_map, list_any, zip}
use Rattle.std.specs.Option.{option_map_or, unwrap_or}
use Rattle.mvt_document.specs.Plain.{Number, Body, Spelled, Delimited, Field}
use Rattle.mvt_document.specs.Wire.{minimal, spelling}
use Rattle.mvt_messages.specs.Numbers.{Placed, numbers_in, all_good}

-- the old number as it is spelled, where it has this value; else this value in its shortest spelling
abbrev pub with_number : ℕ → Number → Number
with_number value old = if old.value == value then old else minimal value

-- the number with the value that is decided on for it; none where it is to go
abbrev pub decided : Option ℕ × Number → Option Number
decided p = option_map (λ value. with_number value p.1) p.0

-- the numbers that are left of some, by a decision for each in order: the value that it gets, or none where it goes;
-- the numbers after the last decision stay
abbrev pub renumbered : List (Option ℕ) → List Number → List Number
renumbered decisions numbers = filter_map decided (zip decisions numbers) ++ drop (length decisions) numbers

-- the number does not keep its value by this decision
abbrev pub is_changed : Number × Option ℕ → Bool
is_changed p = option_map_or (λ value. not (value == p.0.value)) p.1 true

-- some number does not keep its value, by a decision for each in order
abbrev pub some_changed : List (Option ℕ) → List Number → Bool
some_changed decisions numbers = list_any is_changed (zip numbers decisions)

-- a body with these numbers in place of its own: a VARINT body has one, a LEN body packs them
-- (guide, Packed Repeated Fields)
abbrev pub with_numbers : List Number → Body → Body
with_numbers numbers (Spelled old) = Spelled (slice_index_or numbers 0 old)
with_numbers numbers (Delimited width bytes) = Delimited width (flat_map spelling numbers)
with_numbers numbers body = body

-- the numbers of a field, where it has this number and packs nothing else; else none (guide, Repeated Elements)
abbrev pub field_numbers : ℕ → Field → List Number
field_numbers number field = unwrap_or (option_map (map (λ (p : Placed). p.number)) (all_good (numbers_in number (0, field)))) []

-- a field of which these numbers are left: it stays where it had none, and goes where it had some and none is left
abbrev pub with_left : Field → List Number → List Number → List Field
with_left field [] left = field ∷ []
with_left field (number ∷ more) [] = []
with_left field (number ∷ more) (first ∷ others) = record field { body = with_numbers (first ∷ others) field.body } ∷ []

-- what is left of a field, by a decision for each of its numbers
abbrev pub renumbered_field : ℕ → List (Option ℕ) → Field → List Field
renumbered_field number decisions field = with_left field (field_numbers number field) (renumbered decisions (field_numbers number field))

-- the fields of a message, by a decision for each number in the fields of this number, in order
abbrev pub renumber : ℕ → List (Option ℕ) → List Field → List Field
renumber number decisions [] = []
renumber number decisions (field ∷ more) = renumbered_field number decisions field ++ renumber number (drop (length (field_numbers number field)) decisions) more

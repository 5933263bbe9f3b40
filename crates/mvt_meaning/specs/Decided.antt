-- Fields of a message whose numbers are decided on, each with what is decided on its own.
use Rattle.std.specs.Prelude.{ℕ, ◌==◌, Bool, true, not, List, [], ◌∷◌, length, map, filter, take, drop, Option}
use Rattle.std.specs.List.{flat_map, list_any, zip}
use Rattle.std.specs.Option.{option_map_or}
use Rattle.mvt_document.specs.Plain.{Field}
use Rattle.mvt_renumber.specs.Renumbering.{field_numbers, renumbered_field}

-- each field with what is decided on its numbers, in order
abbrev pub decided_fields : ℕ → List (Option ℕ) → List Field → List (List (Option ℕ) × Field)
decided_fields number decisions [] = []
decided_fields number decisions (field ∷ more) = (take (length (field_numbers number field)) decisions, field) ∷ decided_fields number (drop (length (field_numbers number field)) decisions) more

-- a number of the field goes, or gets another value
abbrev pub is_renumbered : ℕ → List (Option ℕ) × Field → Bool
is_renumbered number at = list_any (λ p. option_map_or (λ value. not (value == p.1.value)) p.0 true) (zip at.0 (field_numbers number at.1))

-- the fields in which a number goes or gets another value, each with what is decided on its numbers
abbrev pub renumbered_fields : ℕ → List (Option ℕ) → List Field → List (List (Option ℕ) × Field)
renumbered_fields number decisions fields = filter (is_renumbered number) (decided_fields number decisions fields)

-- these fields, as they are before
abbrev pub as_before : List (List (Option ℕ) × Field) → List Field
as_before decided = map (λ at. at.1) decided

-- what becomes of these fields
abbrev pub as_renumbered : ℕ → List (List (Option ℕ) × Field) → List Field
as_renumbered number decided = flat_map (λ at. renumbered_field number at.0 at.1) decided

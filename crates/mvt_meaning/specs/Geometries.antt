-- The geometry of features, where commands change it.
use Rattle.std.specs.Prelude.{ℕ, true, ◌&&◌, ◌||◌, Bool, ℤ, ◌+ℤ◌, List, [], ◌∷◌, Option, Some, is_some}
use Rattle.std.specs.Option.{option_and_then, option_map_or, unwrap_or}
use Rattle.mvt_document.specs.Plain.{Field}
use Rattle.mvt_document.specs.Signed.{unzigzag, zigzag}
use Rattle.mvt_messages.specs.Numbers.{numbers}
use Rattle.mvt_renumber.specs.Renumbering.{renumber}
use Rattle.mvt_geometry.specs.Checks.{is_delta}
use Rattle.mvt_geometry.specs.Found.{geometry_in}
use Rattle.mvt_geometry.specs.Integers.{encoded}
use Rattle.mvt_geometry.specs.Shapes.{Geometry, kind_number}
use Rattle.mvt_messages.specs.Attributes.{values_in}
use Rattle.mvt_messages.specs.Views.{content_in, last_value, value_in}
use Rattle.mvt_meaning.specs.Decided.{renumbered_fields}
use Rattle.mvt_meaning.specs.Fields.{new_content, new_number, with_field_value}
use Rattle.mvt_meaning.specs.Ordinals.{put_last, put_once}

-- ---- the kind of a feature is field 3, VARINT; the integers of its geometry are in field 4, VARINT or LEN

-- the field is a kind field: a VARINT field of number 3 (tiles 4.2)
abbrev pub is_kind : Field → Bool
is_kind field = is_some (value_in 3 field)

-- the field is a geometry field: a VARINT or LEN field of number 4, whatever it packs (tiles 4.2)
abbrev pub is_geometry_field : Field → Bool
is_geometry_field field = is_some (value_in 4 field) || is_some (content_in 4 field)

-- the integers in the geometry fields among these fields of a feature, where these pack nothing else (tiles 4.3)
abbrev pub integers_among : List Field → Option (List ℕ)
integers_among fields = values_in (numbers 4 fields)

-- the geometry that a feature of these fields has, where it has one (tiles 4.3)
abbrev pub geometry_among : List Field → Option Geometry
geometry_among fields = option_and_then (geometry_in (unwrap_or (last_value 3 fields) 0)) (integers_among fields)

-- ---- a geometry that moves

-- the sum of a delta and the one that this parameter holds (tiles 4.3.2)
abbrev pub further : ℤ → ℕ → ℤ
further delta parameter = unzigzag parameter +ℤ delta

-- what is decided on the integers of a geometry that moves: the two parameters after the first command, which lead from
-- (0, 0), lead further, and all else stays (tiles 4.3.2)
abbrev pub moved_integers : ℤ → ℤ → List ℕ → List (Option ℕ)
moved_integers dx dy (command ∷ x ∷ y ∷ more) = Some command ∷ Some (zigzag (further dx x)) ∷ Some (zigzag (further dy y)) ∷ []
moved_integers dx dy integers = []

-- these two parameters can hold the deltas that they get (tiles 4.3.2)
abbrev pub can_move_integers : ℤ → ℤ → List ℕ → Bool
can_move_integers dx dy (command ∷ x ∷ y ∷ more) = is_delta (further dx x) && is_delta (further dy y)
can_move_integers dx dy integers = true

-- what is decided on the integers of a feature of these fields where its geometry moves; nothing where they cannot be
-- read (tiles 4.3)
abbrev pub moves : ℤ → ℤ → List Field → List (Option ℕ)
moves dx dy fields = option_map_or (moved_integers dx dy) (integers_among fields) []

-- the integers of a feature of these fields can hold its geometry once it has moved (tiles 4.3)
abbrev pub can_move : ℤ → ℤ → List Field → Bool
can_move dx dy fields = option_map_or (can_move_integers dx dy) (integers_among fields) true

-- the fields of a feature whose geometry moves by dx and dy (tiles 4.3)
abbrev pub shifted : ℤ → ℤ → List Field → List Field
shifted dx dy fields = renumber 4 (moves dx dy fields) fields

-- the geometry fields of a feature in which an integer gets another value, where its geometry moves, each with what is
-- decided on its integers (tiles 4.3)
abbrev pub shifting : ℤ → ℤ → List Field → List (List (Option ℕ) × Field)
shifting dx dy fields = renumbered_fields 4 (moves dx dy fields) fields

-- ---- another geometry

-- the fields of a feature with this kind in the last kind field, or in a new one at the end (tiles 4.2)
abbrev pub with_kind : ℕ → List Field → List Field
with_kind kind fields = put_last is_kind (with_field_value kind) (new_number 24 kind) fields

-- the fields of a feature with the kind of this geometry, and the geometry in a new field in place of the first geometry
-- field, or at the end; the other geometry fields go (tiles 4.2, 4.3)
abbrev pub with_geometry : Geometry → List Field → List Field
with_geometry geometry fields = put_once is_geometry_field (new_content 34 (encoded geometry)) (with_kind (kind_number geometry.kind) fields)

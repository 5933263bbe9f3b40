-- Which geometry a feature has.
use Rattle.std.specs.Prelude.{◌≡◌, ℕ, ◌^◌, Bool, List, Option, Some, None, Result, Ok, Err, nat_lt, if◌then◌else◌}
use Rattle.std.specs.List.{list_all}
use Rattle.std.specs.Option.{option_and_then}
use Rattle.mvt_document.specs.Plain.{Feature}
use Rattle.mvt_messages.specs.Numbers.{Placed, numbers}
use Rattle.mvt_geometry.specs.Shapes.{Geometry}
use Rattle.mvt_geometry.specs.Integers.{HasGeometry}
use Rattle.mvt_messages.specs.Views.{kind_of}
use Rattle.mvt_messages.specs.Attributes.{values_in}

-- no chunk among the feature's numbers of field 4 is bad, and they have this geometry, of the feature's kind
-- (tiles 4.3)
pub record HasFeatureGeometry (feature : Feature) (geometry : Geometry) : Type 0 where
  pub integers : List ℕ
  pub read : values_in (numbers 4 feature.fields) ≡ Some integers
  pub has : HasGeometry (kind_of feature) integers geometry

-- ---- integers of 32 bits

-- the number is below 2^32
abbrev pub is_short : ℕ → Bool
is_short number = nat_lt number (2 ^ 32)

-- the numbers, where each is below 2^32
abbrev pub if_short : List ℕ → Option (List ℕ)
if_short list = if list_all is_short list then Some list else None

-- the values of numbers, where no chunk among them is bad and each is below 2^32
abbrev pub integers_in : List (Result Placed ℕ) → Option (List ℕ)
integers_in chunks = option_and_then if_short (values_in chunks)

-- the value of a number, where it is not a bad chunk and is below 2^32
abbrev pub integer_in : Result Placed ℕ → Option ℕ
integer_in (Ok placed) = if is_short placed.number.value then Some placed.number.value else None
integer_in (Err bad) = None

-- What the types of a document ensure by themselves: facts about numbers alone.
use Rattle.std.specs.Prelude.{◌≡◌, ℕ, ◌%◌, ◌^◌, ◌<◌, ◌≤◌}
use Rattle.mvt_document.specs.Wire.{minimal_width}

-- the value is below 2 ^ 64 and fits in this width, which is at most 10 (guide, Base 128 Varints)
pub record IsSpelling (value width : ℕ) : Type 0 where
  pub fits : value < 2 ^ 64
  pub wide : minimal_width value ≤ width
  pub short : width ≤ 10

-- the value of a tag: at least 8, so its field number is at least 1; below 2 ^ 32; and its lowest three bits are the
-- wire type (guide, Message Structure)
pub record IsTag (value wire_type : ℕ) : Type 0 where
  pub numbered : 8 ≤ value
  pub short : value < 2 ^ 32
  pub typed : value % 8 ≡ wire_type

-- a stored width: from 1 to 10
pub record IsWidth (width : ℕ) : Type 0 where
  pub some : 1 ≤ width
  pub short : width ≤ 10

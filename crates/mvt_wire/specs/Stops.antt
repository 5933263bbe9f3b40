-- Where reading stops.
use Rattle.std.specs.Prelude.{◌≡◌, ℕ, ◌<◌, ◌≤◌, List, length, take}
use Rattle.std.specs.List.{flat_map, AllByRecursion}
use Rattle.mvt_document.specs.Plain.{Field}
use Rattle.mvt_document.specs.Wire.{field_bytes}
use Rattle.mvt_document.specs.Parts.{IsWholeField}
use Rattle.mvt_wire.specs.declared.faults.ReadError.{ReadError}
use Rattle.mvt_wire.specs.declared.faults.ReadError.TheVariants.{BadWire, FileTooLarge, NoMemory}

-- a proper prefix of this length is the bytes of whole items, and no longer prefix is the bytes of whole fields each of
-- which makes an item
pub record EndsAt {T : Type 0} (as_field : T → Field) (is_whole : T → Type 0) (makes : Field → Type 0) (content : List ℕ) (place : ℕ) : Type 0 where
  pub before : place < length content
  pub items : List T
  pub whole : AllByRecursion is_whole items
  pub spelled : take place content ≡ flat_map (λ i. field_bytes (as_field i)) items
  pub longest : (n : ℕ) (fields : List Field) → place < n → n ≤ length content → AllByRecursion IsWholeField fields → AllByRecursion makes fields → take n content ≡ flat_map field_bytes fields → ⊥

-- the error of a reader of items: the wire is bad at a place for which `stops` holds, or memory ran out
abbrev pub IsReadError : (ℕ → Type 0) → ReadError → Type 0
IsReadError stops (BadWire place) = stops place
IsReadError stops FileTooLarge = ⊥
IsReadError stops NoMemory = Unit {0}

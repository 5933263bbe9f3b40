-- The numbers that are left once some have been taken.
use Rattle.std.specs.Prelude.{ℕ, List, ◌++◌, Result, drop}
use Rattle.std.specs.List.{flat_map, enumerate_from}
use Rattle.mvt_document.specs.Plain.{Field}
use Rattle.mvt_messages.specs.Numbers.{Placed, pieces, unpacked, numbers_in, through_bad}

-- what a packed body spells from this place
abbrev pub packed_from : ℕ → ℕ → List ℕ → List (Result Placed ℕ)
packed_from field place body = unpacked field place (pieces (drop place body))

-- the numbers in the fields from this position
abbrev pub numbers_from : ℕ → ℕ → List Field → List (Result Placed ℕ)
numbers_from number position fields = flat_map (numbers_in number) (enumerate_from position (drop position fields))

-- these numbers, then those in the fields from this position, up to the first bad chunk
abbrev pub left : List (Result Placed ℕ) → ℕ → ℕ → List Field → List (Result Placed ℕ)
left at_hand number position fields = through_bad (at_hand ++ numbers_from number position fields)

-- Laws of packed bodies.
use Rattle.std.specs.Prelude.{◌≡◌, ◌≢◌, ℕ, ◌+◌, List, [], ◌∷◌, ◌++◌, Some, None, Result, Ok, length}
use Rattle.std.specs.List.{flat_map, AllByRecursion}
use Rattle.mvt_document.specs.Plain.{Number}
use Rattle.mvt_document.specs.Wire.{spelling}
use Rattle.mvt_document.specs.Groups.{IsNumber}
use Rattle.mvt_messages.specs.Numbers.{Placed, pieces, unpacked, all_good, before_bad}

-- the numbers of a field one after the other, the first at this place
abbrev pub in_a_row : ℕ → ℕ → List Number → List (Result Placed ℕ)
in_a_row field place [] = []
in_a_row field place (number ∷ more) = Ok (record { number = number; field = field; place = place }) ∷ in_a_row field (place + length (spelling number)) more

-- the spellings of the numbers, joined
abbrev pub spellings : List Placed → List ℕ
spellings found = flat_map (λ (p : Placed). spelling p.number) found

-- a packed body of numbers spelled one after the other is read as these numbers (guide, Packed Repeated Fields)
abbrev pub SpelledIsRead : Type 0
SpelledIsRead = (field place : ℕ) (list : List Number) → AllByRecursion IsNumber list → unpacked field place (pieces (flat_map spelling list)) ≡ in_a_row field place list

-- each of the numbers can be spelled in its width
abbrev pub AreNumbers : List Placed → Type 0
AreNumbers found = AllByRecursion (λ (p : Placed). IsNumber p.number) found

-- a packed body that is read with no bad chunk is the joined spellings of its numbers (guide, Packed Repeated Fields)
abbrev pub ReadIsSpelled : Type 0
ReadIsSpelled = (field place : ℕ) (body : List ℕ) (found : List Placed) → all_good (unpacked field place (pieces body)) ≡ Some found → (body ≡ spellings found) × AreNumbers found

-- the body begins with the joined spellings of these numbers, and what follows is not empty and begins with no number
pub record EndsBadly (body : List ℕ) (found : List Placed) : Type 0 where
  pub numbers : AreNumbers found
  pub rest : List ℕ
  pub spelled : body ≡ spellings found ++ rest
  pub some : rest ≢ []
  pub none : (number : Number) (more : List ℕ) → IsNumber number → rest ≡ spelling number ++ more → ⊥

-- a packed body with a bad chunk begins with the joined spellings of the numbers before it, and no number begins after
-- them (guide, Packed Repeated Fields)
abbrev pub BadIsNoNumber : Type 0
BadIsNoNumber = (field place : ℕ) (body : List ℕ) → all_good (unpacked field place (pieces body)) ≡ None → EndsBadly body (before_bad (unpacked field place (pieces body)))

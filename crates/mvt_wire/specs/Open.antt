-- What is left of the groups that are open at a place.
use Rattle.std.specs.Prelude.{◌≡◌, ℕ, ◌-◌, List, [], ◌∷◌, ◌++◌, length}
use Rattle.mvt_document.specs.declared.TheConstants.{MAX_GROUPS}
use Rattle.mvt_document.specs.Groups.{IsGroupWithin}

-- the bytes are what is left of each open group of these numbers, the innermost first (guide, Groups)
abbrev pub Closes : List ℕ → List ℕ → Type 0
Closes [] bytes = bytes ≡ []
Closes (number ∷ numbers) bytes = (left rest : List ℕ) × IsGroupWithin (MAX_GROUPS - length numbers) number left × Closes numbers rest × (bytes ≡ left ++ rest)

-- the piece leads from the open groups `old` to the open groups `new`: what closes `new`, with the piece before it,
-- closes `old`; and where the piece is a prefix of what closes `old`, or goes beyond it into what follows, the bytes
-- after the piece begin with what closes `new` (guide, Groups)
pub record LeadsTo (piece old new : List ℕ) : Type 0 where
  pub closes : (left : List ℕ) → Closes new left → Closes old (piece ++ left)
  pub goes_on : (bytes after rest : List ℕ) → Closes old bytes → piece ++ after ≡ bytes ++ rest → (left : List ℕ) × Closes new left × (after ≡ left ++ rest)

-- Bytes written at the end of a room.
use Rattle.std.specs.Prelude.{◌≡◌, ℕ, ◌+◌, List, ◌++◌, length, take}

-- the bytes were written at the end of a room: `left` bytes before them are as they were, and the two make up the whole
pub record Fills (old new bytes : List ℕ) (left : ℕ) : Type 0 where
  pub counted : left + length bytes ≡ length old
  pub written : new ≡ take left old ++ bytes

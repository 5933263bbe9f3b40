-- The values of a layer as plain values: lists and numbers, with nothing about where they are in memory.
use Rattle.std.specs.Prelude.{ℕ, ℤ, Bool, List}

-- a value of a layer: a text, a float of 4 or of 8 bytes, a signed number, an unsigned one, one stored in ZigZag, or a
-- truth value; a float is its bytes in the order of the file (tiles 4.1)
pub data Value : Type 0 where
  OfText : (text : List ℕ) → Value
  OfFloat : (bytes : List ℕ) → Value
  OfDouble : (bytes : List ℕ) → Value
  OfInt : (number : ℤ) → Value
  OfUint : (number : ℕ) → Value
  OfSint : (number : ℤ) → Value
  OfBool : (truth : Bool) → Value

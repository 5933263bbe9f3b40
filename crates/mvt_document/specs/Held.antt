-- What contracts see of a list of the program.
use Rattle.std.specs.Prelude.{ℕ, List}

-- a list as contracts see it: its items, and how many more it takes without growing
pub record Held (T : Type 0) : Type 0 where
  pub items : List T
  pub room : ℕ

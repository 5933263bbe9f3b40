-- What becomes of a line that text is added to.
use Rattle.std.specs.Prelude.{◌≡◌, ℕ, List, ◌++◌}

-- `old` is a prefix of `new`
pub record Extends (old new : List ℕ) : Type 0 where
  pub added : List ℕ
  pub whole : new ≡ old ++ added

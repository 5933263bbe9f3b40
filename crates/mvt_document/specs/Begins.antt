-- What bytes begin with.
use Rattle.std.specs.Prelude.{◌≡◌, ℕ, List, ◌++◌}

-- the bytes begin with those of a thing for which `is_such` holds
pub record Begins {A : Type 0} (is_such : A → Type 0) (bytes_of : A → List ℕ) (bytes : List ℕ) : Type 0 where
  pub thing : A
  pub holds : is_such thing
  pub rest : List ℕ
  pub spelled : bytes ≡ bytes_of thing ++ rest

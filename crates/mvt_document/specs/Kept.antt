-- What a message keeps about its size, its runs and the ids in it.
use Rattle.std.specs.Prelude.{◌≡◌, ℕ, suc, ◌+◌, List, length, take, drop, Option, IfSome}
use Rattle.std.specs.List.{flat_map}
use Rattle.mvt_document.specs.declared.run.Runs.{Runs}

-- what a message keeps beside its items: how many bytes they take, and their runs, as far as that is known, and the
-- hashes of the ids of those at the front
pub record Kept : Type 0 where
  pub size : Option ℕ
  pub runs : Option Runs
  pub hashes : List ℕ

-- where the sum is known, it is how many bytes the items take
abbrev pub IsKept : {T : Type 0} → (T → List ℕ) → List T → Option ℕ → Type 0
IsKept bytes items sum = IfSome sum (λ n. n ≡ length (flat_map bytes items))

-- how many bytes the items before and after this index take
abbrev pub bytes_beside : {T : Type 0} → (T → List ℕ) → ℕ → List T → ℕ
bytes_beside bytes index items = length (flat_map bytes (take index items)) + length (flat_map bytes (drop (suc index) items))

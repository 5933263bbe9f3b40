-- Names among which others are looked up.
use Rattle.std.specs.Prelude.{ℕ, List}
use Rattle.std.specs.Borrow.{Bor}
use Rattle.std.specs.Cmp.Lexicographic.{slice_cmp}
use Rattle.std.specs.List.Sorted.{IsSorted}
use Rattle.std.specs.Ordering.{nat_cmp}

-- the names are in the order of their bytes
abbrev pub AreInOrder : List (Bor (List ℕ)) → Type 0
AreInOrder names = IsSorted (λ first second. slice_cmp nat_cmp first.now second.now) names

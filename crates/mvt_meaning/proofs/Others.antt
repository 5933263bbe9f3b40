-- Answers that are not refusals of this kind.
use Rattle.std.proofs.Common.{◌≢◌, Bool, true, false, Result, Ok, Err}
use Rattle.std.specs.Prelude.{if◌then◌else◌}

abbrev pub Other : {E A : Type 0} → E → Result A E → Type 0
Other memory (Ok x) = Unit {0}
Other memory (Err e) = e ≢ memory

pub either : {E A : Type 0} (memory : E) (q : Bool) (x y : Result A E) → Other memory x → Other memory y → Other memory (if q then x else y)
either memory true x y first second = first
either memory false x y first second = second

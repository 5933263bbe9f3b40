-- A value that is there, or a refusal in its place.
use Rattle.std.proofs.Common.{◌≡◌, Bool, true, false, is_some, Option, Some, None, Result, ok_or, sym}
use Rattle.std.specs.Option.{IfSome}
use Rattle.std.specs.Result.{IfErr, IfOk}
use Rattle.mvt_meaning.specs.declared.refusal.Refusal.{Refusal}

module _ {X : Type 0} (refusal : Refusal) where
  pub of_value : (o : Option X) (r : Result X Refusal) (P : X → Type 0) → r ≡ ok_or o refusal → IfSome o P → IfOk r P
  of_value (Some x) r P value holds = rw value holds
  of_value None r P value holds = rw value tt

  pub of_some : (o : Option X) (r : Result X Refusal) (is : Bool) (P : Type 0) → r ≡ ok_or o refusal → is_some o ≡ is → (is ≡ true → P) → IfOk r (λ x. P)
  of_some (Some x) r is P value same holds = rw value (holds (sym same))
  of_some None r is P value same holds = rw value tt

  pub of_none : (o : Option X) (r : Result X Refusal) (is : Bool) (P : Refusal → Type 0) → r ≡ ok_or o refusal → is_some o ≡ is → (is ≡ false → P refusal) → IfErr r P
  of_none (Some x) r is P value same holds = rw value tt
  of_none None r is P value same holds = rw value (holds (sym same))

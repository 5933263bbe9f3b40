-- An item between others.
use Rattle.std.proofs.Common.{◌≡◌, ℕ, zero, suc, List, [], ◌∷◌, ◌++◌, length, Some, slice_get, refl, arith}

pub get_between : {B : Type 0} (front : List B) (x : B) (back : List B) (n : ℕ) → length front ≡ n → slice_get (front ++ x ∷ back) n ≡ Some x
get_between [] x back zero e = refl
get_between [] x back (suc n) e = absurd (omega arith)
get_between (y ∷ front) x back zero e = absurd (omega arith)
get_between (y ∷ front) x back (suc n) e = get_between front x back n (omega arith)

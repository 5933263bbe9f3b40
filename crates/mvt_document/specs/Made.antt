-- What a closure makes of a list, and of the values that it is given with it.
use Rattle.std.specs.Prelude.{◌≡◌, Bool, Option}
use Rattle.std.specs.Option.{IsSomeAnd}
use Rattle.std.specs.Fn.{Once}
use Rattle.std.specs.Borrow.{MutBor}
use Rattle.mvt_document.specs.declared.run.Kind.{Kind}

module _ {F L W R : Type 0} (g : Once F (MutBor L × (MutBor W × Unit {0})) (R × (MutBor L × (MutBor W × Unit {0})))) (change : F) where
  -- the closure may be called with a `&mut` to the list, and one to the values beside it
  abbrev pub TakesList : L → W → Type 0
  TakesList list beside = (p : MutBor L) (q : MutBor W) → p.now ≡ list → q.now ≡ beside → g.pre change (p, (q, tt))

  -- such a call may return `r`, and leave `made` in place of the list and `left` beside it
  pub record Makes (list : L) (beside : W) (r : R) (made : L) (left : W) : Type 0 where
    pub shown : MutBor L
    pub given : MutBor W
    pub shows : (shown.now ≡ list) × (given.now ≡ beside)
    pub ended : MutBor L
    pub passed : MutBor W
    pub met : g.post change (shown, (given, tt)) (r, (ended, (passed, tt)))
    pub leaves : (ended.now ≡ made) × (passed.now ≡ left)

  -- there is a list, and the closure makes of it one for which this holds
  abbrev pub MakesThere : Option L → W → R → W → (L → Type 0) → Type 0
  MakesThere found beside r left holds = IsSomeAnd found (λ list. (made : L) × Makes list beside r made left × holds made)

  -- whatever it may make of an item is of the same kind as that item
  abbrev pub StaysOfKind : (Kind → L → Bool) → L → W → Type 0
  StaysOfKind of_kind item beside = (r : R) (made : L) (left : W) → Makes item beside r made left → (kind : Kind) → of_kind kind made ≡ of_kind kind item

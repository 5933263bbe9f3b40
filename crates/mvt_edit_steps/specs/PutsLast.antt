-- Steps that put one item in place of the last that passes, or at the end of a list.
use Rattle.std.specs.Prelude.{◌≡◌, ℕ, Bool, List, length}
use Rattle.std.specs.List.{flat_map}
use Rattle.mvt_document.specs.Splicing.{part, splice}
use Rattle.mvt_document.specs.Lists.{CanSplice}
use Rattle.mvt_change.specs.Changes.{Step}
use Rattle.mvt_meaning.specs.Weights.{weigh_last}

-- `taken` items from `index` of `items` can be taken out, and those of `put` put there, and that turns them into
-- `after`; the bytes that are put are those of the last item that passes in `after`, and those that are taken out are
-- those of the last that passes in `items`
pub record ReplacesLast {A : Type 0} (valid : A → Type 0) (bytes : A → List ℕ) (passes : A → Bool) (items after : List A) (index taken : ℕ) (put : List A) : Type 0 where
  pub can : CanSplice valid index taken put items
  pub makes : splice index taken put items ≡ after
  pub puts : length (flat_map bytes put) ≡ weigh_last bytes passes after
  pub takes : length (flat_map bytes (part index taken items)) ≡ weigh_last bytes passes items

-- the step exchanges a part of `items` in this way, and turns them into `after`
pub record PutsLast {A : Type 0} (valid : A → Type 0) (bytes : A → List ℕ) (passes : A → Bool) (step_with : ℕ → ℕ → List A → Step) (items after : List A) (step : Step) : Type 0 where
  pub index : ℕ
  pub taken : ℕ
  pub put : List A
  pub parts : step ≡ step_with index taken put
  pub replaces : ReplacesLast valid bytes passes items after index taken put

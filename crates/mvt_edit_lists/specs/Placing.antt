-- Where a new item is inserted to have an ordinal.
use Rattle.std.specs.Prelude.{◌≡◌, ℕ, ◌≤◌, Bool, List, [], ◌∷◌, length}
use Rattle.mvt_document.specs.Splicing.{splice}
use Rattle.mvt_meaning.specs.Ordinals.{count, insert_nth}

-- inserted at this place, any new item has this ordinal among those that pass, as `insert_nth` puts it there
pub record IsPlaceFor {A : Type 0} (passes : A → Bool) (ordinal : ℕ) (items : List A) (place : ℕ) : Type 0 where
  pub few : ordinal ≤ count passes items
  pub within : place ≤ length items
  pub inserts : (new : A) → insert_nth passes ordinal new items ≡ splice place 0 (new ∷ []) items

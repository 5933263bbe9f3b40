-- A change that is under way, and steps of it that are made on features of one layer.
use Rattle.std.specs.Prelude.{◌≡◌, ◌≢◌, ◌⊎◌, ℕ, ◌+◌, ◌-◌, ◌<◌, ◌≤◌, ◌==◌, List, ◌++◌, length, map, reverse, take, drop, Result, Ok, Err, Option, Some, None, slice_get, if◌then◌else◌, IfOk}
use Rattle.std.specs.List.{AllByRecursion}
use Rattle.std.specs.Option.{IsSomeAnd, option_and_then}
use Rattle.mvt_document.specs.Held.{Held}
use Rattle.mvt_document.specs.Plain as plain
use Rattle.mvt_document.specs.Stands.{document_of}
use Rattle.mvt_document.specs.HeldPlaces.{held_items_at, held_fields_in_at, change_held_items}
use Rattle.mvt_document.specs.declared.document.LayerItem.{LayerItem}
use Rattle.mvt_document.specs.declared.document.Document.{Document}
use Rattle.mvt_change.specs.declared.change.Step.{Step}
use Rattle.mvt_change.specs.declared.change.Step.TheVariants.{InFeature}
use Rattle.mvt_change.specs.ChangeStands.{step_of}
use Rattle.mvt_change.specs.Changes.{Change, go, Fits, turn}
use Rattle.mvt_change.specs.HeldChanges.{HasHeldPart, HaveRoom}

-- the first steps of a change were made, and lead back from the document, with the room for it; the others are left
pub record IsUnderway (change : Change) (start : plain.Document) (made rest : List Step) (document : Document) : Type 0 where
  pub first : Change
  pub all : first ++ map step_of rest ≡ change
  pub fits : Fits change start
  pub stands : document_of document ≡ go first start
  pub turns : map step_of made ≡ turn first start
  pub room : HaveRoom made document

-- of a change that is under way, the first `n` of the steps that are left are made and turned; the others are left
abbrev pub Advances : ℕ → List Step → List Step → Document → Document → Type 0
Advances n steps new document after =
    (change : Change) (start : plain.Document) (made : List Step) → IsUnderway change start made steps document → IsUnderway change start (reverse (take n new) ++ made) (drop n new) after

-- how many steps were made, in all or until memory ran out
abbrev pub steps_made : Result ℕ ℕ → ℕ
steps_made (Ok n) = n
steps_made (Err n) = n

-- how many steps were carried out in one pass: none where memory ran out
abbrev pub carried_out : {E : Type 0} → Result ℕ E → ℕ
carried_out (Ok n) = n
carried_out (Err error) = 0

-- ---- steps on features of one layer

-- the step is on the fields of a feature of this layer
abbrev pub IsInFeatureOf : ℕ → Step → Type 0
IsInFeatureOf layer (InFeature other item index taken put) = other ≡ layer
IsInFeatureOf layer step = ⊥

-- the position of the feature of this layer whose fields the step is on; none where it is on another list, or moves an
-- item
abbrev pub item_in : ℕ → Step → Option ℕ
item_in layer (InFeature other item index taken put) = if other == layer then Some item else None
item_in layer step = None

-- the same of the step at a position; none where there is no step
abbrev pub item_at : ℕ → List Step → ℕ → Option ℕ
item_at layer steps at = option_and_then (item_in layer) (slice_get steps at)

-- the first `n` of the steps, and no others, are made in one visit to this layer: they are on features of it, no two in
-- a row on the same one; the step after them is on none, or on the same feature as the last of them
pub record IsVisit (layer n : ℕ) (steps : List Step) : Type 0 where
  pub on : AllByRecursion (IsInFeatureOf layer) (take n steps)
  pub apart : (at : ℕ) → at + 1 < n → item_at layer steps at ≢ item_at layer steps (at + 1)
  pub ends : (item_at layer steps n ≡ None) ⊎ (item_at layer steps n ≡ item_at layer steps (n - 1))

-- the layer that a step on the fields of a feature is in
abbrev pub layer_in : Step → ℕ
layer_in (InFeature layer item index taken put) = layer
layer_in step = 0

-- the step is on the fields of a feature, which is one of these items, and takes out some that are there
abbrev pub FindsFields : Held LayerItem → Step → Type 0
FindsFields items (InFeature layer item index taken put) = IsSomeAnd (held_fields_in_at item items) (HasHeldPart index taken)
FindsFields items step = ⊥

-- the steps fit a document in which the layer at this position has these items, and the first is on a feature of that
-- layer
pub record FitInLayer (layer : ℕ) (steps : List Step) (items : Held LayerItem) : Type 0 where
  pub document : Document
  pub there : held_items_at layer document ≡ Some items
  pub first : IsSomeAnd (slice_get steps 0) (IsInFeatureOf layer)
  pub fits : Fits (map step_of steps) (document_of document)

-- this holds of each document that has these items in the layer, and of the same document with the other items there
abbrev pub InEach : ℕ → Held LayerItem → Held LayerItem → (Document → Document → Type 0) → Type 0
InEach layer items made holds = (document : Document) → held_items_at layer document ≡ Some items → holds document (change_held_items (λ _. made) layer document)

-- in each document whose layer at this position has these items, the first of the steps are made: one or more, which
-- are those of one visit, or as many as there were until memory ran out
pub record AdvancesIn (layer : ℕ) (items made : Held LayerItem) (result : Result ℕ ℕ) (steps new : List Step) : Type 0 where
  pub some : IfOk result (λ n. 0 < n)
  pub visit : IfOk result (λ n. IsVisit layer n steps)
  pub within : steps_made result ≤ length steps
  pub made_there : InEach layer items made (Advances (steps_made result) steps new)

-- What stays the same in a tile where the selected layers change.
use Rattle.std.specs.Prelude.{◌≡◌, ℕ, Some, Ok, slice_get}
use Rattle.mvt_document.specs.Plain.{Layer, Document}
use Rattle.mvt_meaning.specs.Command.{LayersChoice, TheLayer, EachLayer}
use Rattle.mvt_messages.specs.Views.{layers}
use Rattle.mvt_meaning.specs.Selection.{layer_positions, selected}
use Rattle.command_laws.specs.Kept.{tile_fields}

-- the layer of this ordinal is selected (tiles 4.1)
abbrev pub IsSelected : LayersChoice → ℕ → Document → Type 0
IsSelected (TheLayer choice) ordinal document = selected choice document ≡ Ok ordinal
IsSelected EachLayer ordinal document = Unit {0}

-- the layer has become another in this way, with its tag and its stored width
pub record Becomes (way : Layer → Layer → Type 0) (former present : Layer) : Type 0 where
  pub tag : present.tag ≡ former.tag
  pub width : present.width ≡ former.width
  pub changed : way former present

-- each selected layer has become another in this way; the other layers, the other fields of the tile, and the positions
-- of the layers are the same
pub record ChangesLayers (choice : LayersChoice) (way : Layer → Layer → Type 0) (old new : Document) : Type 0 where
  pub selects : (ordinal : ℕ) (former : Layer) → IsSelected choice ordinal old → slice_get (layers old) ordinal ≡ Some former → (present : Layer) × (slice_get (layers new) ordinal ≡ Some present) × Becomes way former present
  pub others : (ordinal : ℕ) → ¬ IsSelected choice ordinal old → slice_get (layers new) ordinal ≡ slice_get (layers old) ordinal
  pub fields : tile_fields new ≡ tile_fields old
  pub positions : layer_positions new ≡ layer_positions old

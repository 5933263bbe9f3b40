-- Laws of the commands on layers, in the words of a tile: what an accepted command makes.
use Rattle.std.specs.Prelude.{◌≡◌, ◌≢◌, ◌⊎◌, ℕ, not, Bool, List, [], ◌∷◌, filter, Some, option_map, slice_get, Ok}
use Rattle.std.specs.List.{filter_map, list_any, remove}
use Rattle.mvt_document.specs.Plain.{Layer, Document}
use Rattle.mvt_meaning.specs.Command.{LayerChoice, Named, RenameLayer, MoveLayer, DropLayer, KeepLayers}
use Rattle.mvt_messages.specs.Views.{is_named, layers, name_of}
use Rattle.mvt_meaning.specs.Selection.{layer_positions, selected}
use Rattle.mvt_meaning.specs.Meaning.{applied, is_name}
use Rattle.command_laws.specs.Kept.{field_in, tile_fields, without_layer}

-- ---- a new name

-- a layer without its name fields (tiles 4.1)
abbrev pub without_names : Layer → Layer
without_names layer = record layer { items = filter (λ item. not (is_name item)) layer.items }

-- the layer of this ordinal has the name, and no other layer has it; that layer without its names, the other layers,
-- the other fields of the tile, and the positions of the layers are as they were (tiles 4.1)
pub record IsRenamed (name : List ℕ) (ordinal : ℕ) (old new : Document) : Type 0 where
  pub named : option_map name_of (slice_get (layers new) ordinal) ≡ Some (Some name)
  pub alone : selected (Named name) new ≡ Ok ordinal
  pub rest : option_map without_names (slice_get (layers new) ordinal) ≡ option_map without_names (slice_get (layers old) ordinal)
  pub others : (other : ℕ) → other ≢ ordinal → slice_get (layers new) other ≡ slice_get (layers old) other
  pub fields : filter_map field_in new ≡ filter_map field_in old
  pub positions : layer_positions new ≡ layer_positions old

-- an accepted rename selects a layer, and the tile is renamed at its ordinal; `applied` says which of the names of the
-- layer changes
abbrev pub RenameNames : Type 0
RenameNames = (choice : LayerChoice) (name : List ℕ) (old new : Document) → applied (RenameLayer choice name) old ≡ Ok new → (ordinal : ℕ) × (selected choice old ≡ Ok ordinal) × IsRenamed name ordinal old new

-- ---- another order

-- the layer of ordinal `from` has ordinal `to` now; the other layers, the other fields of the tile, and both together
-- keep their order (tiles 4.1)
pub record IsMoved (from to : ℕ) (old new : Document) : Type 0 where
  pub there : slice_get (layers new) to ≡ slice_get (layers old) from
  pub others : remove (layers new) to ≡ remove (layers old) from
  pub fields : tile_fields new ≡ tile_fields old
  pub items : without_layer to new ≡ without_layer from old

-- an accepted move brings the selected layer to the given ordinal
abbrev pub MoveLayerMoves : Type 0
MoveLayerMoves = (choice : LayerChoice) (index : ℕ) (old new : Document) → applied (MoveLayer choice index) old ≡ Ok new → (ordinal : ℕ) × (selected choice old ≡ Ok ordinal) × IsMoved ordinal index old new

-- ---- fewer layers

-- the layer of this ordinal is gone; the other layers, the other fields of the tile, and both together stay, in their
-- order (tiles 4.1)
pub record IsDropped (ordinal : ℕ) (old new : Document) : Type 0 where
  pub others : layers new ≡ remove (layers old) ordinal
  pub fields : tile_fields new ≡ tile_fields old
  pub items : Some new ≡ without_layer ordinal old

-- an accepted drop removes the selected layer, and nothing else
abbrev pub DropLayerDrops : Type 0
DropLayerDrops = (choice : LayerChoice) (old new : Document) → applied (DropLayer choice) old ≡ Ok new → (ordinal : ℕ) × (selected choice old ≡ Ok ordinal) × IsDropped ordinal old new

-- the layer has one of these names (tiles 4.1)
abbrev pub has_one_of : List (List ℕ) → Layer → Bool
has_one_of names layer = list_any (λ name. is_named name layer) names

-- the first list consists of some items of the second, in their order
abbrev pub IsPartOf : {A : Type 0} → List A → List A → Type 0
IsPartOf [] ys = Unit {0}
IsPartOf (x ∷ xs) [] = ⊥
IsPartOf (x ∷ xs) (y ∷ ys) = ((x ≡ y) × IsPartOf xs ys) ⊎ IsPartOf (x ∷ xs) ys

-- the layers that have one of the names are left, at least one; they, the other fields of the tile, and both together
-- are in their order (tiles 4.1)
pub record AreKept (names : List (List ℕ)) (old new : Document) : Type 0 where
  pub kept : layers new ≡ filter (has_one_of names) (layers old)
  pub some : layers new ≢ []
  pub fields : tile_fields new ≡ tile_fields old
  pub items : IsPartOf new old

-- the layers that an accepted `keep` leaves are those that have one of the names
abbrev pub KeepLayersKeeps : Type 0
KeepLayersKeeps = (names : List (List ℕ)) (old new : Document) → applied (KeepLayers names) old ≡ Ok new → AreKept names old new

-- Steps as splices of the list that they are on.
use Rattle.std.specs.Prelude.{◌≡◌, ℕ, ◌-◌, ◌≤◌, List, [], ◌∷◌, length, Some}
use Rattle.mvt_document.specs.Held.{Held}
use Rattle.mvt_document.specs.Splicing.{part}
use Rattle.mvt_splices.specs.Splices.{Splice}
use Rattle.mvt_document.specs.declared.field.FieldParts.{FieldParts as Field}
use Rattle.mvt_document.specs.declared.document.LayerItem.{LayerItem}
use Rattle.mvt_document.specs.declared.document.TileItem.{TileItem}
use Rattle.mvt_change.specs.declared.change.Step.{Step}
use Rattle.mvt_change.specs.declared.change.Step.TheVariants.{InTile, InLayer, InFeature, Move}
use Rattle.mvt_change.specs.ChangeStands.{action_of, spliced_place}
use Rattle.mvt_change.specs.Changes.{Place}
use Rattle.mvt_change.specs.Room.{capacity}
use Rattle.mvt_change.specs.HeldChanges.{exchanged}

-- the splice that takes nothing and puts nothing
abbrev pub no_splice : {T : Type 0} → Splice T
no_splice = record { index = 0; taken = 0; put = record { items = []; room = 0 } }

-- ---- what a step exchanges on the tile's list, on a layer's and on a feature's

-- the splice that a step is on the list of the tile; none where it is on another list, or moves an item
abbrev pub tile_splice : Step → Splice TileItem
tile_splice (InTile index taken put) = record { index = index; taken = taken; put = put }
tile_splice other = no_splice

-- the splice that a step is on the list of a layer; none where it is on another list, or moves an item
abbrev pub layer_splice : Step → Splice LayerItem
layer_splice (InLayer layer index taken put) = record { index = index; taken = taken; put = put }
layer_splice other = no_splice

-- the splice that a step is on the list of a feature; none where it is on another list, or moves an item
abbrev pub feature_splice : Step → Splice Field
feature_splice (InFeature layer item index taken put) = record { index = index; taken = taken; put = put }
feature_splice other = no_splice

-- ---- the step that leads back from what this one makes of a list; its own list has the items that are taken out

-- `taken` items from `index`, in a list with the capacity of `put`
abbrev pub held_part : {T : Type 0} → ℕ → ℕ → Held T → List T → Held T
held_part index taken put items = record { items = part index taken items; room = capacity put - taken }

-- the step that leads back from what a step on the list of the tile makes of these items; another step as it is
abbrev pub turned_in_tile : Step → List TileItem → Step
turned_in_tile (InTile index taken put) items = InTile index (length put.items) (held_part index taken put items)
turned_in_tile other items = other

-- the step that leads back from what a step on the list of a layer makes of these items; another step as it is
abbrev pub turned_in_layer : Step → List LayerItem → Step
turned_in_layer (InLayer layer index taken put) items = InLayer layer index (length put.items) (held_part index taken put items)
turned_in_layer other items = other

-- the step that leads back from what a step on the list of a feature makes of these items; another step as it is
abbrev pub turned_in_feature : Step → List Field → Step
turned_in_feature (InFeature layer item index taken put) items = InFeature layer item index (length put.items) (held_part index taken put items)
turned_in_feature other items = other

-- ---- the same step, with no less room for the items that it puts

-- the same items, with no less room
pub record IsRoomierList {T : Type 0} (old new : Held T) : Type 0 where
  pub items : new.items ≡ old.items
  pub room : old.room ≤ new.room

-- the same step, with no less room for the items that it puts
abbrev pub IsRoomierStep : Step → Step → Type 0
IsRoomierStep (InTile index taken put) step = (more : Held TileItem) × IsRoomierList put more × (step ≡ InTile index taken more)
IsRoomierStep (InLayer layer index taken put) step = (more : Held LayerItem) × IsRoomierList put more × (step ≡ InLayer layer index taken more)
IsRoomierStep (InFeature layer item index taken put) step = (more : Held Field) × IsRoomierList put more × (step ≡ InFeature layer item index taken more)
IsRoomierStep (Move place from to) step = step ≡ Move place from to

-- ---- steps on one list, one after the other

-- the step is a splice of the list at this place
abbrev pub IsOn : Place → Step → Type 0
IsOn place step = spliced_place (action_of step) ≡ Some place

-- the list after the splices of all steps, with its room
abbrev pub exchanged_all : {T : Type 0} → (Step → Splice T) → List Step → Held T → Held T
exchanged_all splice_of [] list = list
exchanged_all splice_of (step ∷ steps) list = exchanged_all splice_of steps (exchanged (splice_of step).index (splice_of step).taken (splice_of step).put list)

-- Laws of steps as splices, with their proofs: those that the pass over the steps of one list requires.
use Rattle.std.specs.Prelude.{◌≡◌, ℕ, ◌+◌, ◌-◌, ◌≤◌, List, length, drop, refl}
use Rattle.std.proofs.Common.{sym, subst, length-drop, arith}
use Rattle.std.proofs.lemmas.List.{length-take-le}
use Rattle.mvt_document.specs.Held.{Held}
use Rattle.mvt_document.specs.Splicing.{part, splice}
use Rattle.mvt_document.proofs.Exchanged.{part-splice}
use Rattle.mvt_splices.specs.Splices.{IsRoomier, FindsRoom, splice_back, spliced}
use Rattle.mvt_document.specs.declared.field.FieldParts.{FieldParts as Field}
use Rattle.mvt_document.specs.declared.document.LayerItem.{LayerItem}
use Rattle.mvt_document.specs.declared.document.TileItem.{TileItem}
use Rattle.mvt_change.specs.declared.change.Step.{Step}
use Rattle.mvt_change.specs.declared.change.Step.TheVariants.{InTile, InLayer, InFeature, Move}
use Rattle.mvt_change.specs.Runs.{no_splice, tile_splice, layer_splice, feature_splice, turned_in_tile, turned_in_layer, turned_in_feature, held_part, IsRoomierList, IsRoomierStep}

-- a list has no less room than itself
list_as_roomy : {T : Type 0} (list : Held T) → IsRoomierList list list
list_as_roomy list = record { items = refl; room = omega arith }

-- a step has no less room than itself
pub as_roomy : (step : Step) → IsRoomierStep step step
as_roomy (InTile index taken put) = (put, list_as_roomy put, refl)
as_roomy (InLayer layer index taken put) = (put, list_as_roomy put, refl)
as_roomy (InFeature layer item index taken put) = (put, list_as_roomy put, refl)
as_roomy (Move place from to) = refl

-- the splice that does nothing has no less room than itself
nothing_roomy : {T : Type 0} → IsRoomier {T = T} no_splice no_splice
nothing_roomy = record { index = refl; taken = refl; items = refl; room = omega arith }

-- the part that comes back has as many items as were taken out, and what is put for it is what was put, with its room
part_twice : {T : Type 0} (index taken : ℕ) (put : Held T) (items : List T) → index + taken ≤ length items → taken ≤ length put.items + put.room
    → (length (part index taken items) ≡ taken) × (held_part index (length put.items) (held_part index taken put items) (splice index taken put.items items) ≡ put)
part_twice index taken put items within room =
    let count : length (part index taken items) ≡ taken = length-take-le taken (drop index items) (omega (arith, length-drop index items)) in
    let same = part-splice index taken put.items items (omega arith) in
    let left : length (part index taken items) + (length put.items + put.room - taken) - length put.items ≡ put.room = omega (arith, count) in
    (count, λ i. record { items = same i; room = left i })

-- steps that are the same but for room are the same splice of the list of the tile, with no less room
pub roomy_tile : (s t : Step) → IsRoomierStep s t → IsRoomier (tile_splice s) (tile_splice t)
roomy_tile (InTile index taken put) t roomy =
    subst (λ u. IsRoomier (tile_splice (InTile index taken put)) (tile_splice u)) (sym roomy.2) (record { index = refl; taken = refl; items = roomy.1.items; room = roomy.1.room })
roomy_tile (Move place from to) t roomy = subst (λ u. IsRoomier no_splice (tile_splice u)) (sym roomy) nothing_roomy
roomy_tile s t roomy = subst (λ u. IsRoomier no_splice (tile_splice u)) (sym roomy.2) nothing_roomy

-- the step that leads back on the list of a tile is the splice that leads back
pub turned_tile_splice : (s : Step) (items : List TileItem) → tile_splice (turned_in_tile s items) ≡ splice_back (tile_splice s) items
turned_tile_splice (InTile index taken put) items = refl
turned_tile_splice other items = refl

-- a step turned twice on the list of a tile is what it was
pub turned_tile_twice : (s : Step) (items : List TileItem) → (tile_splice s).index + (tile_splice s).taken ≤ length items → FindsRoom (tile_splice s) → turned_in_tile (turned_in_tile s items) (spliced (tile_splice s) items) ≡ s
turned_tile_twice (InTile index taken put) items within room =
    let back = part_twice index taken put items within room in
    λ i. InTile index (back.0 i) (back.1 i)
turned_tile_twice other items within room = refl

-- steps that are the same but for room are the same splice of the list of a layer, with no less room
pub roomy_layer : (s t : Step) → IsRoomierStep s t → IsRoomier (layer_splice s) (layer_splice t)
roomy_layer (InLayer layer index taken put) t roomy =
    subst (λ u. IsRoomier (layer_splice (InLayer layer index taken put)) (layer_splice u)) (sym roomy.2) (record { index = refl; taken = refl; items = roomy.1.items; room = roomy.1.room })
roomy_layer (Move place from to) t roomy = subst (λ u. IsRoomier no_splice (layer_splice u)) (sym roomy) nothing_roomy
roomy_layer s t roomy = subst (λ u. IsRoomier no_splice (layer_splice u)) (sym roomy.2) nothing_roomy

-- the step that leads back on the list of a layer is the splice that leads back
pub turned_layer_splice : (s : Step) (items : List LayerItem) → layer_splice (turned_in_layer s items) ≡ splice_back (layer_splice s) items
turned_layer_splice (InLayer layer index taken put) items = refl
turned_layer_splice other items = refl

-- a step turned twice on the list of a layer is what it was
pub turned_layer_twice : (s : Step) (items : List LayerItem) → (layer_splice s).index + (layer_splice s).taken ≤ length items → FindsRoom (layer_splice s) → turned_in_layer (turned_in_layer s items) (spliced (layer_splice s) items) ≡ s
turned_layer_twice (InLayer layer index taken put) items within room =
    let back = part_twice index taken put items within room in
    λ i. InLayer layer index (back.0 i) (back.1 i)
turned_layer_twice other items within room = refl

-- steps that are the same but for room are the same splice of the list of a feature, with no less room
pub roomy_feature : (s t : Step) → IsRoomierStep s t → IsRoomier (feature_splice s) (feature_splice t)
roomy_feature (InFeature layer item index taken put) t roomy =
    subst (λ u. IsRoomier (feature_splice (InFeature layer item index taken put)) (feature_splice u)) (sym roomy.2) (record { index = refl; taken = refl; items = roomy.1.items; room = roomy.1.room })
roomy_feature (Move place from to) t roomy = subst (λ u. IsRoomier no_splice (feature_splice u)) (sym roomy) nothing_roomy
roomy_feature s t roomy = subst (λ u. IsRoomier no_splice (feature_splice u)) (sym roomy.2) nothing_roomy

-- the step that leads back on the list of a feature is the splice that leads back
pub turned_feature_splice : (s : Step) (items : List Field) → feature_splice (turned_in_feature s items) ≡ splice_back (feature_splice s) items
turned_feature_splice (InFeature layer item index taken put) items = refl
turned_feature_splice other items = refl

-- a step turned twice on the list of a feature is what it was
pub turned_feature_twice : (s : Step) (items : List Field) → (feature_splice s).index + (feature_splice s).taken ≤ length items → FindsRoom (feature_splice s) → turned_in_feature (turned_in_feature s items) (spliced (feature_splice s) items) ≡ s
turned_feature_twice (InFeature layer item index taken put) items within room =
    let back = part_twice index taken put items within room in
    λ i. InFeature layer item index (back.0 i) (back.1 i)
turned_feature_twice other items within room = refl

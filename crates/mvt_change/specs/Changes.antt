-- Changes of a document, what they make of it, and what leads back.
use Rattle.std.specs.Prelude.{ℕ, List, [], ◌∷◌, ◌++◌, length, Option, Some}
use Rattle.std.specs.List.{flat_map, sum_by}
use Rattle.std.specs.Option.{IsSomeAnd, option_map_or}
use Rattle.mvt_document.specs.Plain.{Field, LayerItem, TileItem, Document}
use Rattle.mvt_document.specs.Wire.{field_bytes, layer_item_bytes, tile_item_bytes}
use Rattle.mvt_document.specs.Opens.{IsField, IsLayerItem, IsTileItem}
use Rattle.mvt_document.specs.Splicing.{part, splice, moved}
use Rattle.mvt_document.specs.Lists.{CanSplice, CanMove}
use Rattle.mvt_document.specs.Places.{items_at, fields_at, change_items, change_fields}

-- a list of a document: that of the tile, of the layer at a position, or of the feature at a position of that layer
pub data Place : Type 0 where
  OfTheTile : Place
  OfTheLayer : (layer : ℕ) → Place
  OfTheFeature : (layer item : ℕ) → Place

-- what the items of the list at a place are
abbrev pub ItemAt : Place → Type 0
ItemAt OfTheTile = TileItem
ItemAt (OfTheLayer layer) = LayerItem
ItemAt (OfTheFeature layer item) = Field

-- a splice of the list at a place: items from an index are taken out, and others put there; or a move of an item of it
-- to another position
pub data Step : Type 0 where
  SpliceStep : (place : Place) (index taken : ℕ) (put : List (ItemAt place)) → Step
  MoveStep : (place : Place) (from to : ℕ) → Step

-- a splice of the list of the tile
abbrev pub TileStep : ℕ → ℕ → List TileItem → Step
TileStep index taken put = SpliceStep OfTheTile index taken put

-- a splice of the list of the layer at this position
abbrev pub LayerStep : ℕ → ℕ → ℕ → List LayerItem → Step
LayerStep layer index taken put = SpliceStep (OfTheLayer layer) index taken put

-- a splice of the list of the feature at this position of that layer
abbrev pub FeatureStep : ℕ → ℕ → ℕ → ℕ → List Field → Step
FeatureStep layer item index taken put = SpliceStep (OfTheFeature layer item) index taken put

-- steps in order
abbrev pub Change : Type 0
Change = List Step

-- ---- the list at a place

-- the list at a place; none where there is no layer, or no feature
abbrev pub list_at : (place : Place) → Document → Option (List (ItemAt place))
list_at OfTheTile document = Some document
list_at (OfTheLayer layer) document = items_at layer document
list_at (OfTheFeature layer item) document = fields_at layer item document

-- the document with the list at a place changed; as it is where there is none
abbrev pub change_list : (place : Place) → (List (ItemAt place) → List (ItemAt place)) → Document → Document
change_list OfTheTile change document = change document
change_list (OfTheLayer layer) change document = change_items change layer document
change_list (OfTheFeature layer item) change document = change_fields change layer item document

-- a valid item of the list at a place
abbrev pub IsItemAt : (place : Place) → ItemAt place → Type 0
IsItemAt OfTheTile item = IsTileItem item
IsItemAt (OfTheLayer layer) item = IsLayerItem item
IsItemAt (OfTheFeature layer item) field = IsField field

-- the bytes of an item of the list at a place
abbrev pub item_bytes : (place : Place) → ItemAt place → List ℕ
item_bytes OfTheTile item = tile_item_bytes item
item_bytes (OfTheLayer layer) item = layer_item_bytes item
item_bytes (OfTheFeature layer item) field = field_bytes field

-- ---- what they make

-- the document after a step
abbrev pub go_step : Step → Document → Document
go_step (SpliceStep place index taken put) document = change_list place (splice index taken put) document
go_step (MoveStep place from to) document = change_list place (moved from to) document

-- the document after a change: its steps, one after the other
abbrev pub go : Change → Document → Document
go [] document = document
go (step ∷ change) document = go change (go_step step document)

-- ---- when they fit

-- the list exists, and so do the items that are taken out or move, and the position that one moves to; the items that
-- are put are valid
abbrev pub FitsStep : Step → Document → Type 0
FitsStep (SpliceStep place index taken put) document = IsSomeAnd (list_at place document) (CanSplice (IsItemAt place) index taken put)
FitsStep (MoveStep place from to) document = IsSomeAnd (list_at place document) (CanMove from to)

-- each step fits what the steps before it made
abbrev pub Fits : Change → Document → Type 0
Fits [] document = Unit {0}
Fits (step ∷ change) document = FitsStep step document × Fits change (go_step step document)

-- ---- what leads back

-- `taken` items from `index` of the list, where there is one; else none
abbrev pub taken_out : {A : Type 0} → ℕ → ℕ → Option (List A) → List A
taken_out index taken list = option_map_or (part index taken) list []

-- the step that leads back: it takes out what was put, and puts what was taken out; or it moves the item back
abbrev pub turn_step : Step → Document → Step
turn_step (SpliceStep place index taken put) document = SpliceStep place index (length put) (taken_out index taken (list_at place document))
turn_step (MoveStep place from to) document = MoveStep place to from

-- the change that leads back: the steps in reverse order, each turned on the document that it met
abbrev pub turn : Change → Document → Change
turn [] document = []
turn (step ∷ change) document = turn change (go_step step document) ++ turn_step step document ∷ []

-- ---- how much they put

-- the bytes of all items that a step puts
abbrev pub step_weight : Step → ℕ
step_weight (SpliceStep place index taken put) = length (flat_map (item_bytes place) put)
step_weight (MoveStep place from to) = 0

-- the bytes of all items that a change puts
abbrev pub weight : Change → ℕ
weight change = sum_by step_weight change

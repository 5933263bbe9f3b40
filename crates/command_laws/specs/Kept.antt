-- What stays the same in a tile where one of its layers changes, and in a layer where one of its features does.
use Rattle.std.specs.Prelude.{◌≡◌, ◌≢◌, ℕ, ◌-◌, List, Option, Some, None, Ok, length, option_map, slice_get, take}
use Rattle.std.specs.List.{filter_map, remove}
use Rattle.mvt_document.specs.Plain.{Field, Feature, LayerItem, Layer, TileItem, OfLayer, PlainInTile, Document}
use Rattle.mvt_messages.specs.Views.{layers, features, plain_fields}
use Rattle.mvt_meaning.specs.Command.{LayerChoice, FeatureChoice}
use Rattle.mvt_meaning.specs.Selection.{layer_positions, feature_positions, selected, selected_feature}

-- ---- one layer of a tile

-- an item of a tile as a field, or none where it is a layer (tiles 4.1)
abbrev pub field_in : TileItem → Option Field
field_in (OfLayer layer) = None
field_in (PlainInTile field) = Some field

-- the fields of a tile other than its layers, in order (tiles 4.1)
abbrev pub tile_fields : Document → List Field
tile_fields document = filter_map field_in document

-- all items of a tile but the layer of this ordinal, in order; none where there is no such layer
abbrev pub without_layer : ℕ → Document → Option Document
without_layer ordinal document = option_map (remove document) (slice_get (layer_positions document) ordinal)

-- the two tiles are alike but for the layer of this ordinal: the other layers, the other fields, and the positions of
-- the layers are the same
pub record LayerAloneDiffers (ordinal : ℕ) (old new : Document) : Type 0 where
  pub others : (other : ℕ) → other ≢ ordinal → slice_get (layers new) other ≡ slice_get (layers old) other
  pub fields : tile_fields new ≡ tile_fields old
  pub positions : layer_positions new ≡ layer_positions old

-- the selected layer has become another in this way, with its tag and its stored width, and it alone differs
pub record ChangesLayer (choice : LayerChoice) (way : Layer → Layer → Type 0) (old new : Document) : Type 0 where
  pub ordinal : ℕ
  pub selects : selected choice old ≡ Ok ordinal
  pub former : Layer
  pub was : slice_get (layers old) ordinal ≡ Some former
  pub present : Layer
  pub is : slice_get (layers new) ordinal ≡ Some present
  pub tag : present.tag ≡ former.tag
  pub width : present.width ≡ former.width
  pub changed : way former present
  pub alone : LayerAloneDiffers ordinal old new

-- ---- one feature of a layer

-- all items of a layer but the feature of this ordinal, in order; none where there is no such feature
abbrev pub without_feature : ℕ → Layer → Option (List LayerItem)
without_feature ordinal layer = option_map (remove layer.items) (slice_get (feature_positions layer.items) ordinal)

-- the two layers are alike but for the feature of this ordinal: the other features, the other fields, and the positions
-- of the features are the same
pub record FeatureAloneDiffers (ordinal : ℕ) (old new : Layer) : Type 0 where
  pub others : (other : ℕ) → other ≢ ordinal → slice_get (features new) other ≡ slice_get (features old) other
  pub fields : plain_fields new.items ≡ plain_fields old.items
  pub positions : feature_positions new.items ≡ feature_positions old.items

-- the selected feature has become another in this way, with its tag and its stored width, and it alone differs in its
-- layer
pub record ChangesFeature (choice : FeatureChoice) (way : Feature → Feature → Type 0) (old new : Layer) : Type 0 where
  pub ordinal : ℕ
  pub selects : selected_feature choice old ≡ Ok ordinal
  pub former : Feature
  pub was : slice_get (features old) ordinal ≡ Some former
  pub present : Feature
  pub is : slice_get (features new) ordinal ≡ Some present
  pub tag : present.tag ≡ former.tag
  pub width : present.width ≡ former.width
  pub changed : way former present
  pub alone : FeatureAloneDiffers ordinal old new

-- ---- a list whose last item changes

-- the list without its last item
abbrev pub all_but_last : {A : Type 0} → List A → List A
all_but_last items = take (length items - 1) items

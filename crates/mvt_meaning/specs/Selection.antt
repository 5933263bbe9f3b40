-- Which layer is selected, which layers are, and which feature of a layer.
use Rattle.std.specs.Prelude.{ℕ, ◌==◌, Bool, List, length, filter, slice_get, Result, Ok, Err, is_some, nat_lt, if◌then◌else◌}
use Rattle.std.specs.Option.{option_map_or}
use Rattle.std.specs.Result.{result_map_both}
use Rattle.mvt_document.specs.Plain.{LayerItem, Layer, TileItem, Document}
use Rattle.mvt_messages.specs.Found.{found_layers}
use Rattle.mvt_messages.specs.Views.{feature_in, features, has_id, is_named, layer_in, layers, ordinals_of, the_one}
use Rattle.mvt_meaning.specs.Command.{LayerChoice, AtOrdinal, Named, LayersChoice, TheLayer, EachLayer, FeatureChoice, FeatureAtOrdinal, WithId}
use Rattle.mvt_meaning.specs.Ordinals.{positions_of}
use Rattle.mvt_meaning.specs.declared.refusal.Refusal.{Refusal}
use Rattle.mvt_meaning.specs.declared.refusal.Refusal.TheVariants.{NoLayer, AmbiguousLayer, NoFeature, AmbiguousFeature}

-- the ordinal of the selected layer: the given one, where there is such a layer, or that of the one layer with the
-- name; else the refusal that there is none, or that there are several (tiles 4.1)
abbrev pub selected : LayerChoice → Document → Result ℕ Refusal
selected (AtOrdinal ordinal) document = if nat_lt ordinal (length (layers document)) then Ok ordinal else Err NoLayer
selected (Named name) document = the_one NoLayer AmbiguousLayer (ordinals_of (is_named name) (layers document))

-- the selected layers, in order, each with its ordinal and its position: one, or all; else the refusal where none is
-- selected (tiles 4.1)
abbrev pub selected_layers : LayersChoice → Document → Result (List (ℕ × (ℕ × Layer))) Refusal
selected_layers (TheLayer choice) document = result_map_both (λ ordinal. filter (λ found. found.0 == ordinal) (found_layers document)) (λ refusal. refusal) (selected choice document)
selected_layers EachLayer document = Ok (found_layers document)

-- the ordinal of the selected feature of a layer: the given one, where there is such a feature, or that of the one
-- feature with the id; else the refusal that there is none, or that there are several (tiles 4.2)
abbrev pub selected_feature : FeatureChoice → Layer → Result ℕ Refusal
selected_feature (FeatureAtOrdinal ordinal) layer = if nat_lt ordinal (length (features layer)) then Ok ordinal else Err NoFeature
selected_feature (WithId id) layer = the_one NoFeature AmbiguousFeature (ordinals_of (has_id id) (features layer))

-- the ordinal of the selected feature in the layer of this ordinal, or the refusal (tiles 4.2)
abbrev pub selected_in : FeatureChoice → ℕ → Document → Result ℕ Refusal
selected_in choice ordinal document = option_map_or (selected_feature choice) (slice_get (layers document) ordinal) (Err NoLayer)

-- ---- positions

-- the item of the tile is a layer (tiles 4.1)
abbrev pub is_layer : TileItem → Bool
is_layer item = is_some (layer_in item)

-- the item of the layer is a feature (tiles 4.2)
abbrev pub is_feature : LayerItem → Bool
is_feature item = is_some (feature_in item)

-- the positions of the layers among all items of the tile (tiles 4.1)
abbrev pub layer_positions : Document → List ℕ
layer_positions document = positions_of is_layer document

-- the positions of the features among all items of a layer (tiles 4.2)
abbrev pub feature_positions : List LayerItem → List ℕ
feature_positions items = positions_of is_feature items

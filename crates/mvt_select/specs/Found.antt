-- A layer that was found, the selected layers, and a feature of a layer, each with its ordinal and its position.
use Rattle.std.specs.Prelude.{◌≡◌, ℕ, List, [], slice_get, option_map, Some, Ok}
use Rattle.std.specs.List.{cons_option}
use Rattle.mvt_document.specs.Plain as plain
use Rattle.mvt_document.specs.Stands.{feature_of, layer_of}
use Rattle.mvt_meaning.specs.Command.{LayerChoice, FeatureChoice}
use Rattle.mvt_meaning.specs.Selection.{feature_positions, layer_positions, selected, selected_feature}
use Rattle.mvt_layers.specs.Seen.{found_layer_seen}
use Rattle.mvt_layers.specs.declared.found.FoundLayer.{FoundLayer}
use Rattle.mvt_layers.specs.declared.found.FoundFeature.{FoundFeature}
use Rattle.mvt_select.specs.declared.layers.SelectedLayers.{SelectedLayers}
use Rattle.mvt_select.specs.declared.layers.SelectedLayers.TheVariants.{One, All}

-- the layer that was found is the selected one, and is at its position in the tile (tiles 4.1)
pub record IsFoundLayer (choice : LayerChoice) (document : plain.Document) (found : FoundLayer) : Type 0 where
  pub selects : selected choice document ≡ Ok found.ordinal
  pub placed : slice_get (layer_positions document) found.ordinal ≡ Some found.position
  pub there : slice_get document found.position ≡ Some (plain.OfLayer (layer_of found.layer.now))

-- those of the selected layers that are left, each with its ordinal and its position (tiles 4.1)
abbrev pub layers_left : SelectedLayers → List (ℕ × (ℕ × plain.Layer))
layers_left (One found) = cons_option (option_map found_layer_seen found) []
layers_left (All layers) = layers

-- the feature that was found is the selected one, and is at its position in the layer (tiles 4.2)
pub record IsFoundFeature (choice : FeatureChoice) (layer : plain.Layer) (found : FoundFeature) : Type 0 where
  pub selects : selected_feature choice layer ≡ Ok found.ordinal
  pub placed : slice_get (feature_positions layer.items) found.ordinal ≡ Some found.position
  pub there : slice_get layer.items found.position ≡ Some (plain.OfFeature (feature_of found.feature.now))

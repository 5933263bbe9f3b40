-- The refusals where no layer, or no feature, is selected.
use Rattle.mvt_layers.specs.declared.select.LayerError.{LayerError}
use Rattle.mvt_layers.specs.declared.select.LayerError.TheVariants as layers_seen
use Rattle.mvt_layers.specs.declared.select.FeatureError.{FeatureError}
use Rattle.mvt_layers.specs.declared.select.FeatureError.TheVariants as features_seen
use Rattle.mvt_meaning.specs.declared.refusal.Refusal.{Refusal}
use Rattle.mvt_meaning.specs.declared.refusal.Refusal.TheVariants.{NoLayer, AmbiguousLayer, NoFeature, AmbiguousFeature}

-- the refusal for a name that selects no layer: none has it, or several have it
abbrev pub layer_refusal : LayerError → Refusal
layer_refusal layers_seen.NoLayer = NoLayer
layer_refusal layers_seen.AmbiguousLayer = AmbiguousLayer

-- the refusal for an id that selects no feature: none has it, or several have it
abbrev pub feature_refusal : FeatureError → Refusal
feature_refusal features_seen.NoFeature = NoFeature
feature_refusal features_seen.AmbiguousFeature = AmbiguousFeature

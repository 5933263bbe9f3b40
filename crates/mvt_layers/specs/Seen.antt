-- What a view is a view of.
use Rattle.std.specs.Prelude.{ℕ, List, Result, Ok, Err}
use Rattle.mvt_document.specs.Plain as plain
use Rattle.mvt_document.specs.Stands.{layer_of, feature_of}
use Rattle.mvt_layers.specs.declared.views.LayerView.{LayerView}
use Rattle.mvt_layers.specs.declared.views.FeatureView.{FeatureView}
use Rattle.mvt_layers.specs.declared.found.FoundLayer.{FoundLayer}
use Rattle.mvt_layers.specs.declared.found.FoundFeature.{FoundFeature}
use Rattle.mvt_layers.specs.declared.found.FoundEntry.{FoundEntry}
use Rattle.mvt_messages.specs.Seen.{placed_of}
use Rattle.mvt_messages.specs.Tags.{PlacedPair}
use Rattle.mvt_layers.specs.declared.attributes.Pair.{Pair}
use Rattle.mvt_layers.specs.declared.tag_pairs.TagPair.{TagPair}
use Rattle.mvt_layers.specs.declared.tag_pairs.BadPair.{BadPair}

-- the plain layer that a view shows
abbrev pub layer_seen : LayerView → plain.Layer
layer_seen view = layer_of view.layer.now

-- the plain feature that a view shows
abbrev pub feature_seen : FeatureView → plain.Feature
feature_seen view = feature_of view.feature.now

-- the plain layer that was found, with its ordinal and its position
abbrev pub found_layer_seen : FoundLayer → ℕ × (ℕ × plain.Layer)
found_layer_seen found = (found.ordinal, (found.position, layer_of found.layer.now))

-- the plain feature that was found, with its ordinal and its position
abbrev pub found_feature_seen : FoundFeature → ℕ × (ℕ × plain.Feature)
found_feature_seen found = (found.ordinal, (found.position, feature_of found.feature.now))

-- the bytes of the entry that was found, with its ordinal and its position
abbrev pub found_entry_seen : FoundEntry → ℕ × (ℕ × List ℕ)
found_entry_seen found = (found.ordinal, (found.position, found.bytes.now))

-- the ordinals of the key and the value of a pair
abbrev pub pair_seen : Pair → ℕ × ℕ
pair_seen pair = (pair.key, pair.value)

-- the pair with its two numbers that an answer of the program stands for, or an error
abbrev pub tag_pair_seen : Result TagPair BadPair → Result PlacedPair (Unit {0})
tag_pair_seen (Ok tags) = Ok (pair_seen tags.pair, (placed_of tags.key, placed_of tags.value))
tag_pair_seen (Err bad) = Err tt

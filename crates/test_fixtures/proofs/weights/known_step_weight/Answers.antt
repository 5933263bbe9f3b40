use Rattle.std.proofs.lemmas.List.Folds.{flat_map-map}
use Rattle.test_fixtures.proofs.weights.known_step_weight.Goals as goal

pub returns-in-InTile : goal.returns-in-InTile
returns-in-InTile c = rw (c.in-InTile.is, flat_map-map, ← c.as_slice.ensures) c.known_bytes.ensures

pub returns-in-InLayer : goal.returns-in-InLayer
returns-in-InLayer c = rw (c.in-InLayer.is, flat_map-map, ← c.as_slice-in-InLayer.ensures) c.known_bytes-in-InLayer.ensures

pub returns-in-InFeature : goal.returns-in-InFeature
returns-in-InFeature c = rw (c.in-InFeature.is, flat_map-map, ← c.as_slice-in-InFeature.ensures) c.known_bytes-in-InFeature.ensures

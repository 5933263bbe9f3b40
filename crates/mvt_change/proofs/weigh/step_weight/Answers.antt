use Rattle.std.proofs.lemmas.List.Folds.{flat_map-map}
use Rattle.mvt_change.proofs.weigh.step_weight.Goals as goal

pub bytes_in-requires : goal.bytes_in-requires
bytes_in-requires c = rw c.as_slice.ensures (rw (c.in-InTile.is, flat_map-map) at c.requires)

pub bytes_in-requires-in-InLayer : goal.bytes_in-requires-in-InLayer
bytes_in-requires-in-InLayer c = rw c.as_slice-in-InLayer.ensures (rw (c.in-InLayer.is, flat_map-map) at c.requires)

pub bytes_in-requires-in-InFeature : goal.bytes_in-requires-in-InFeature
bytes_in-requires-in-InFeature c = rw c.as_slice-in-InFeature.ensures (rw (c.in-InFeature.is, flat_map-map) at c.requires)

pub returns-in-InTile : goal.returns-in-InTile
returns-in-InTile c = rw (c.in-InTile.is, flat_map-map, ← c.as_slice.ensures) c.bytes_in.ensures

pub returns-in-InLayer : goal.returns-in-InLayer
returns-in-InLayer c = rw (c.in-InLayer.is, flat_map-map, ← c.as_slice-in-InLayer.ensures) c.bytes_in-in-InLayer.ensures

pub returns-in-InFeature : goal.returns-in-InFeature
returns-in-InFeature c = rw (c.in-InFeature.is, flat_map-map, ← c.as_slice-in-InFeature.ensures) c.bytes_in-in-InFeature.ensures

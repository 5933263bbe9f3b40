use Rattle.tile_listing.proofs.There.{feature_is_there, layer_is_there}
use Rattle.tile_listing.proofs.laws.selected_are_there.Goals as goal

pub returns : goal.returns
returns c = record { layers = layer_is_there; features = feature_is_there }

use Rattle.std.proofs.lemmas.Result.{on_ok_weaker}
use Rattle.mvt_layers.specs.Seen.{feature_seen, layer_seen}
use Rattle.tile_listing.specs.Listing.{attribute_lines, feature_line, geometry_line}
use Rattle.tile_listing.proofs.Puts.{feature_put}
use Rattle.tile_listing.proofs.feature.put_feature.Goals as goal

pub returns : goal.returns
returns c =
    on_ok_weaker c.put_geometry_line.result
    (feature_put c.args.text.now.items c.put_feature_line.new.text.items c.put_attributes.new.text.items c.put_geometry_line.new.text.items (feature_line c.args.ordinal (feature_seen c.args.feature)) (geometry_line (feature_seen c.args.feature)) (attribute_lines (layer_seen c.args.layer) (feature_seen c.args.feature)) c.in_ok-put_feature_line.ensures c.in_ok-put_attributes.ensures)
    c.put_geometry_line.ensures

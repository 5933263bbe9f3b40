use Rattle.std.proofs.lemmas.Result.{on_ok_weaker}
use Rattle.mvt_layers.specs.Seen.{layer_seen}
use Rattle.tile_listing.specs.Listing.{layer_line}
use Rattle.tile_listing.proofs.Puts.{layer_put}
use Rattle.tile_listing.proofs.layer.put_layer.Goals as goal

pub returns : goal.returns
returns c =
    on_ok_weaker c.put_feature_lines.result
    (layer_put c.args.text.now.items c.put_layer_line.new.text.items c.put_key_lines.new.text.items c.put_value_lines.new.text.items c.put_feature_lines.new.text.items (layer_line c.args.ordinal (layer_seen c.args.layer)) _ _ _ c.in_ok-put_layer_line.ensures c.in_ok-put_key_lines.ensures c.in_ok-put_value_lines.ensures)
    c.put_feature_lines.ensures

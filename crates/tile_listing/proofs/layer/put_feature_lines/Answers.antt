use Rattle.std.proofs.Common.{◌++◌, ap, ◌∙◌}
use Rattle.std.proofs.lemmas.Iterator.Consumers.{YieldsList-at, YieldsList-end, YieldsList-from_first}
use Rattle.mvt_layers.specs.Seen.{found_feature_seen, layer_seen}
use Rattle.mvt_messages.specs.Views.{feature_in}
use Rattle.tile_lines.specs.Lines.{with_feed}
use Rattle.tile_listing.specs.Listing.{feature_line}
use Rattle.tile_listing.proofs.Lines.{found_lines_all, found_line_more}
use Rattle.tile_listing.proofs.layer.put_feature_lines.Goals as goal

pub loop-found-preserved : goal.loop-found-preserved
loop-found-preserved c =
    found_line_more found_feature_seen feature_line c.args.text.now.items c.loop-found.text.items _ c.loop-found.yielded c.in-Some.found c.loop-found.invariant (c.in_ok-put_feature_line.ensures ∙ ap (λ seen. c.loop-found.text.items ++ with_feed (feature_line c.in-Some.found.ordinal seen)) c.view.ensures)

pub returns : goal.returns
returns c =
    let all = YieldsList-from_first found_feature_seen (λ left. left) _ c.features-found-items.ensures.items in
    let came = YieldsList-end (YieldsList-at c.into_iter-found-iterator.ensures.into_iter_gives all) c.loop-found.yielded _ c.loop-found.yielded_by _ _ c.in-None.is c.next.ensures.steps in
    found_lines_all found_feature_seen feature_line feature_in (layer_seen c.args.layer).items c.args.text.now.items c.loop-found.text.items c.loop-found.yielded c.loop-found.invariant came.0

use Rattle.std.proofs.Common.{◌++◌, ap, ◌∙◌}
use Rattle.std.proofs.lemmas.Iterator.Consumers.{YieldsList-at, YieldsList-end, YieldsList-from_first}
use Rattle.mvt_document.specs.Stands.{document_of}
use Rattle.mvt_layers.specs.Seen.{found_layer_seen}
use Rattle.mvt_messages.specs.Views.{layer_in}
use Rattle.tile_lines.specs.Lines.{with_feed}
use Rattle.tile_listing.specs.Listing.{layer_line}
use Rattle.tile_listing.proofs.Lines.{found_lines_all, found_line_more}
use Rattle.tile_listing.proofs.tile.put_layer_lines.Goals as goal

pub loop-found-preserved : goal.loop-found-preserved
loop-found-preserved c =
    found_line_more found_layer_seen layer_line c.args.text.now.items c.loop-found.text.items _ c.loop-found.yielded c.in-Some.found c.loop-found.invariant (c.in_ok-put_layer_line.ensures ∙ ap (λ seen. c.loop-found.text.items ++ with_feed (layer_line c.in-Some.found.ordinal seen)) c.view.ensures)

pub returns : goal.returns
returns c =
    let all = YieldsList-from_first found_layer_seen (λ left. left) _ c.layers-found-items.ensures.items in
    let came = YieldsList-end (YieldsList-at c.into_iter-found-iterator.ensures.into_iter_gives all) c.loop-found.yielded _ c.loop-found.yielded_by _ _ c.in-None.is c.next.ensures.steps in
    found_lines_all found_layer_seen layer_line layer_in (document_of c.args.document.now) c.args.text.now.items c.loop-found.text.items c.loop-found.yielded c.loop-found.invariant came.0

use Rattle.std.proofs.lemmas.Iterator.Consumers.{YieldsList-at, YieldsList-end, YieldsList-from_enumerate, YieldsList-from_first}
use Rattle.std.proofs.Common.{ℕ, List, Bor}
use Rattle.tile_listing.specs.Listing.{key_line}
use Rattle.tile_listing.proofs.Lines.{line_seen_more, lines_all}
use Rattle.tile_listing.proofs.layer.put_key_lines.Goals as goal

pub loop-ordinal-preserved : goal.loop-ordinal-preserved
loop-ordinal-preserved c =
    line_seen_more (λ (key : Bor (List ℕ)). key.now) key_line c.args.text.now.items c.loop-ordinal.text.items _ c.loop-ordinal.yielded c.in-Some.ordinal c.in-Some.key c.loop-ordinal.invariant c.in_ok-put_key_line.ensures

pub returns : goal.returns
returns c =
    let all = YieldsList-from_enumerate (YieldsList-at c.enumerate-ordinal-items.ensures.source (YieldsList-from_first (λ (key : Bor (List ℕ)). key.now) (λ left. left) _ c.keys.ensures.items)) c.enumerate-ordinal-items.ensures.count in
    let came = YieldsList-end (YieldsList-at c.into_iter-ordinal-iterator.ensures.into_iter_gives all) c.loop-ordinal.yielded _ c.loop-ordinal.yielded_by _ _ c.in-None.is c.next.ensures.steps in
    lines_all (λ (key : Bor (List ℕ)). key.now) key_line c.args.text.now.items c.loop-ordinal.text.items c.loop-ordinal.yielded _ c.loop-ordinal.invariant came.0

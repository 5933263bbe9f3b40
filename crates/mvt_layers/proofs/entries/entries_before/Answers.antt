use Rattle.std.proofs.Common.{◌+◌, length, map, ap, ◌∙◌, arith}
use Rattle.std.specs.Prelude.{is_some}
use Rattle.mvt_document.specs.Stands.{layer_item_of}
use Rattle.mvt_messages.specs.Found.{placed_from}
use Rattle.mvt_layers.specs.Pools.{entry_in}
use Rattle.mvt_layers.proofs.Placing.{byte_is, copied_is, counted_more, one_at_most, placed_from-more}
use Rattle.mvt_layers.proofs.entries.entries_before.Goals as goal

pub loop-position-preserved : goal.loop-position-preserved
loop-position-preserved c =
    let pick = entry_in c.args.number in
    let item = layer_item_of c.index-items-position.result in
    let position = c.loop-position.position in
    let one = c.from-count.ensures ∙ byte_is c.is_some.result (is_some (pick item)) (c.is_some.ensures ∙ copied_is c.entry_in.result ∙ ap is_some c.entry_in.ensures) in
    let more = ap length (placed_from-more layer_item_of pick position c.args.items.now c.index-items-position.result (omega arith) c.index-items-position.is)
    ∙ counted_more (pick item) position (placed_from pick (position + 1) (map layer_item_of c.args.items.now)) in
    record {
      few = omega (arith, c.loop-position.invariant.few, one, one_at_most (is_some (pick item)));
      rest = omega (arith, c.loop-position.invariant.rest, one, more);
    }

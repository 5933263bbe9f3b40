use Rattle.std.proofs.Common.{Some, None}
use Rattle.mvt_layers.specs.Seen.{layer_seen}
use Rattle.mvt_messages.specs.Views.{key_field}
use Rattle.mvt_edit_attributes.proofs.EntryOrdinals.{ordinal_is, entry_is_there}
use Rattle.mvt_edit_attributes.proofs.pools.look_for_key.Goals as goal

pub returns-in-Ok : goal.returns-in-Ok
returns-in-Ok c =
    let items = (layer_seen c.args.layer).items in
    let answered = c.in-Ok.ensures.found in
    rw c.there.ensures (record {
      at = ordinal_is c.args.key.now key_field items (Some c.in-Ok.found) answered c.key_count.result c.key_count.ensures;
      there = entry_is_there c.args.key.now key_field items (Some c.in-Ok.found) answered;
      count = c.key_count.ensures;
    })

pub returns-in-Err : goal.returns-in-Err
returns-in-Err c =
    let items = (layer_seen c.args.layer).items in
    let answered = c.in-Err.ensures.found in
    rw c.further.ensures (record {
      at = ordinal_is c.args.key.now key_field items None answered c.in-Err.count c.in-Err.ensures.count;
      there = entry_is_there c.args.key.now key_field items None answered;
      count = c.in-Err.ensures.count;
    })

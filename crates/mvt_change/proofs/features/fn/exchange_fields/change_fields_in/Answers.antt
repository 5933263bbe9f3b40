use Rattle.std.proofs.Common.{is_ok}
use Rattle.mvt_change.proofs.Keeping.{field_order, exchanges_first}
use Rattle.mvt_change.proofs.features.fn.exchange_fields.change_fields_in.Goals as goal

pub returns : goal.returns
returns c =
    let met = c.exchange.ensures in
    exchanges_first field_order (is_ok c.exchange.result) c.captures.index c.captures.taken c.args.list.now c.exchange.new.self c.exchange.new.put c.args.put.now c.index-put-0.result c.requires.1 met.items met.put met.room met.put_room met.succeeds

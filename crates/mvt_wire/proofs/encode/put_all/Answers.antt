use Rattle.std.proofs.Common.{◌-◌, arith, length-take}
use Rattle.mvt_document.proofs.Sizes.{item_within_back}
use Rattle.mvt_wire.proofs.encode.put_all.Goals as goal

pub fill-left-requires : goal.fill-left-requires
fill-left-requires g c =
    let within = item_within_back g.T.Measured.bytes c.args.items.now (c.loop-index.index - 1) c.loop-index.index c.index-items-index.result (omega arith) (omega arith) c.index-items-index.is in
    let left = c.loop-index.invariant.counted in
    omega (arith, length-take c.loop-index.left c.loop-index.room)

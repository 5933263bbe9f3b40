use Rattle.std.proofs.Common.{length-take, arith}
use Rattle.mvt_document.proofs.Sizes.{length-delimited}
use Rattle.mvt_wire.proofs.messages.BodyRefEncode.fill.Goals as goal

pub put_length-requires : goal.put_length-requires
put_length-requires c =
    let counted = c.put_bytes-left.ensures.counted in
    let room = rw (c.in-Bytes.is, length-delimited) at c.requires in
    rw length-take (omega (arith, c.put_bytes-left.auto.room))

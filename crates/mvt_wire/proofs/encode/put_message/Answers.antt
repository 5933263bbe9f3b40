use Rattle.std.proofs.Common.{◌≡◌, ◌-◌, length, length-take, arith}
use Rattle.std.specs.List.{flat_map}
use Rattle.mvt_document.proofs.Sizes.{length-message}
use Rattle.mvt_wire.proofs.encode.put_message.Goals as goal

pub put_length-left-requires : goal.put_length-left-requires
put_length-left-requires g c =
    let counted = c.put_all-left.ensures.counted in
    let count : length c.put_all-left.new.room - c.put_all-left.result ≡ length (flat_map g.T.Measured.bytes c.args.items.now) = omega (arith, c.put_all-left.auto.room) in
    let room = rw length-message at c.requires in
    rw (count, length-take) (omega (arith, c.put_all-left.auto.room))

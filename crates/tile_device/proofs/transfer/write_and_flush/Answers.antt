use Rattle.tile_device.specs.Seen.{sink_at}
use Rattle.tile_device.proofs.Sending.{sends_flushed}
use Rattle.tile_device.proofs.transfer.write_and_flush.Goals as goal

pub returns : goal.returns
returns g c =
    let e = c.flush.ensures in
    sends_flushed _ (sink_at g.S.Sink c.write_all.new.sink) (sink_at g.S.Sink c.flush.new.self) _ _ _ c.flush.result c.in_ok-write_all.ensures.sends
    e.not_interrupted e.interruptions e.failures e.still_tells e.bytes

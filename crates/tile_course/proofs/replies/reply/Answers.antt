use Rattle.tile_device.specs.Seen.{sink_at}
use Rattle.tile_device.proofs.Sending.{sends_flushed}
use Rattle.tile_course.proofs.replies.reply.Goals as goal

pub returns : goal.returns
returns g c =
    let e = c.flush.ensures in
    sends_flushed _ (sink_at g.W.Sink c.write_reply.new.replies) (sink_at g.W.Sink c.flush.new.self) _ _ _ c.flush.result c.in_ok-write_reply.ensures
    e.not_interrupted e.interruptions e.failures e.still_tells e.bytes

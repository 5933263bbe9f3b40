use Rattle.std.proofs.Common.{◌+◌, length}
use Rattle.tile_device.specs.Seen.{sink_at}
use Rattle.tile_device.proofs.Writing.{LeavesRest}
use Rattle.tile_device.proofs.transfer.write_all.Given as goal

abbrev pub invariant-loop-rest : goal.invariant-loop-rest
invariant-loop-rest g l = LeavesRest (sink_at g.S.Sink l.fn.sink) (sink_at g.S.Sink l.sink) l.fn.retries l.retries l.bytes l.rest

abbrev pub decreases-loop-rest : goal.decreases-loop-rest
decreases-loop-rest g l = length l.rest + l.retries

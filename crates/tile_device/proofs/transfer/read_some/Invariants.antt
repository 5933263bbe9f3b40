use Rattle.std.proofs.Common.{◌-◌, []}
use Rattle.tile_device.specs.Seen.{Reads, source_at}
use Rattle.tile_device.proofs.Supplying.{part}
use Rattle.tile_device.proofs.transfer.read_some.Given as goal

abbrev pub invariant-loop-count : goal.invariant-loop-count
invariant-loop-count g l = Reads (source_at g.S.Source l.fn.source) (source_at g.S.Source l.source) l.fn.retries l.retries (part (l.fn.retries - l.retries) [])

abbrev pub decreases-loop-count : goal.decreases-loop-count
decreases-loop-count g l = l.retries

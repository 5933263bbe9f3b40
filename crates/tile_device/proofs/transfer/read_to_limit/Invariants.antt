use Rattle.std.proofs.Common.{◌≡◌, ◌+◌, ◌-◌, length}
use Rattle.tile_device.specs.Seen.{Reads, source_at}
use Rattle.tile_device.proofs.Supplying.{part}
use Rattle.tile_device.proofs.transfer.read_to_limit.Given as goal

abbrev pub invariant-loop-room : goal.invariant-loop-room
invariant-loop-room g l = record {
  limit : length l.bytes.items + l.room ≡ l.limit;
  reads : Reads (source_at g.S.Source l.fn.source) (source_at g.S.Source l.source) l.fn.retries l.retries (part (l.fn.retries - l.retries) l.bytes.items);
}

abbrev pub decreases-loop-room : goal.decreases-loop-room
decreases-loop-room g l = l.room

use Rattle.std.proofs.Common.{take, None}
use Rattle.std.specs.List.{flat_map}
use Rattle.tile_device.specs.Seen.{Sends, sink_at}
use Rattle.tile_course.proofs.replies.write_pieces.Given as goal

abbrev pub invariant-loop-piece : goal.invariant-loop-piece
invariant-loop-piece g l = Sends (sink_at g.W.Sink l.fn.sink) (sink_at g.W.Sink l.sink) l.fn.retries l.retries (flat_map (λ piece. piece.now) (take l.piece-index l.pieces)) None

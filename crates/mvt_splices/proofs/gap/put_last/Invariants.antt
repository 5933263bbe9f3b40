use Rattle.std.proofs.Common.{◌≡◌, ◌+◌, ◌++◌, reverse, vec_len, vec_capacity}
use Rattle.std.specs.VecDeque.{deque_len, deque_capacity}
use Rattle.mvt_splices.proofs.gap.put_last.Given as goal

abbrev pub invariant-loop-ring : goal.invariant-loop-ring
invariant-loop-ring g l = record {
  items : l.ring.items ++ reverse l.put.items ≡ l.initial.ring.items ++ reverse l.initial.put.items;
  count : deque_len l.ring + vec_len l.put ≡ deque_len l.initial.ring + vec_len l.initial.put;
  ring_room : deque_capacity l.ring ≡ deque_capacity l.initial.ring;
  put_room : vec_capacity l.put ≡ vec_capacity l.initial.put;
}

abbrev pub decreases-loop-ring : goal.decreases-loop-ring
decreases-loop-ring g l = vec_len l.put

use Rattle.std.proofs.Common.{◌≡◌, ◌+◌, ◌≤◌, ◌++◌, take, drop}
use Rattle.std.specs.VecDeque.{deque_len, deque_capacity}
use Rattle.mvt_splices.proofs.gap.pass_on.Given as goal

abbrev pub invariant-loop-left : goal.invariant-loop-left
invariant-loop-left g l = record {
  there : l.left ≤ deque_len l.ring;
  room : deque_len l.to + l.left ≤ deque_capacity l.to;
  ring : drop l.left l.ring.items ≡ drop l.count l.initial.ring.items;
  to : l.to.items ++ take l.left l.ring.items ≡ l.initial.to.items ++ take l.count l.initial.ring.items;
  length : deque_len l.ring + l.count ≡ deque_len l.initial.ring + l.left;
  to_length : deque_len l.to + l.left ≡ deque_len l.initial.to + l.count;
  ring_room : deque_capacity l.ring ≡ deque_capacity l.initial.ring;
  to_room : deque_capacity l.to ≡ deque_capacity l.initial.to;
}

abbrev pub decreases-loop-left : goal.decreases-loop-left
decreases-loop-left g l = l.left

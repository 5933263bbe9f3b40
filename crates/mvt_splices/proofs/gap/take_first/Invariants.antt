use Rattle.std.proofs.Common.{◌≡◌, ◌+◌, ◌≤◌, ◌++◌, take, drop, vec_len, vec_capacity}
use Rattle.std.specs.VecDeque.{deque_len, deque_capacity}
use Rattle.mvt_splices.proofs.gap.take_first.Given as goal

abbrev pub invariant-loop-left : goal.invariant-loop-left
invariant-loop-left g l = record {
  there : l.left ≤ deque_len l.ring;
  room : vec_len l.to + l.left ≤ vec_capacity l.to;
  ring : drop l.left l.ring.items ≡ drop l.count l.initial.ring.items;
  to : l.to.items ++ take l.left l.ring.items ≡ l.initial.to.items ++ take l.count l.initial.ring.items;
  length : deque_len l.ring + l.count ≡ deque_len l.initial.ring + l.left;
  ring_room : deque_capacity l.ring ≡ deque_capacity l.initial.ring;
  to_room : vec_capacity l.to ≡ vec_capacity l.initial.to;
}

abbrev pub decreases-loop-left : goal.decreases-loop-left
decreases-loop-left g l = l.left

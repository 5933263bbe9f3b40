use Rattle.std.proofs.Common.{◌≡◌, ◌≤◌, ◌++◌, take, drop}
use Rattle.std.specs.VecDeque.{deque_len, deque_capacity}
use Rattle.mvt_splices.proofs.gap.trade.Given as goal

abbrev pub invariant-loop-left : goal.invariant-loop-left
invariant-loop-left g l = record {
  there : l.left ≤ deque_len l.ring;
  here : l.left ≤ deque_len l.other;
  ring : drop l.left l.ring.items ++ take l.left l.other.items ≡ drop l.count l.initial.ring.items ++ take l.count l.initial.other.items;
  other : drop l.left l.other.items ++ take l.left l.ring.items ≡ drop l.count l.initial.other.items ++ take l.count l.initial.ring.items;
  length : deque_len l.ring ≡ deque_len l.initial.ring;
  other_length : deque_len l.other ≡ deque_len l.initial.other;
  ring_room : deque_capacity l.ring ≡ deque_capacity l.initial.ring;
  other_room : deque_capacity l.other ≡ deque_capacity l.initial.other;
}

abbrev pub decreases-loop-left : goal.decreases-loop-left
decreases-loop-left g l = l.left

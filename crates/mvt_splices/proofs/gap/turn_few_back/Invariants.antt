use Rattle.std.proofs.Common.{◌≡◌, ◌≤◌, ◌-◌, ◌++◌, take, drop}
use Rattle.std.specs.VecDeque.{deque_len, deque_capacity}
use Rattle.mvt_splices.proofs.gap.turn_few_back.Given as goal

abbrev pub invariant-loop-left : goal.invariant-loop-left
invariant-loop-left g l = record {
  there : l.left ≤ deque_len l.ring;
  room : deque_len l.ring ≤ deque_capacity l.ring;
  items : drop (deque_len l.ring - l.left) l.ring.items ++ take (deque_len l.ring - l.left) l.ring.items ≡ drop (deque_len l.initial.ring - l.count) l.initial.ring.items ++ take (deque_len l.initial.ring - l.count) l.initial.ring.items;
  length : deque_len l.ring ≡ deque_len l.initial.ring;
  capacity : deque_capacity l.ring ≡ deque_capacity l.initial.ring;
}

abbrev pub decreases-loop-left : goal.decreases-loop-left
decreases-loop-left g l = l.left

use Rattle.std.proofs.Common.{◌≡◌, ◌≤◌, suc, ◌-◌, ◌++◌, length, take, drop, ap, ◌∙◌, arith}
use Rattle.mvt_splices.proofs.Gaps.{traded}
use Rattle.mvt_splices.proofs.gap.turn_few.Goals as goal

pub loop-left-preserved : goal.loop-left-preserved
loop-left-preserved g c =
    let n = c.loop-left.left - 1 in
    let item = c.in-Some.item in
    let rest = c.pop_front.new.self.items in
    let more : c.loop-left.left ≡ suc n = omega (arith, c.loop-left-test.true) in
    let at = c.in-Some.ensures.items in
    let within : n ≤ length rest = omega (arith, c.in-Some.ensures.len) in
    record {
      there = omega (arith, c.in-Some.ensures.len, c.push_back_reserved.ensures.len);
      room = omega (arith, c.in-Some.ensures.len, c.pop_front.ensures.capacity, c.push_back_reserved.ensures.len, c.push_back_reserved.ensures.capacity);
      items = ap (λ ring. drop n ring ++ take n ring) c.push_back_reserved.ensures.items
          ∙ traded c.loop-left.left n c.loop-left.ring.items rest c.loop-left.ring.items rest item item more at at within within
          ∙ c.loop-left.invariant.items;
      length = omega (arith, c.in-Some.ensures.len, c.push_back_reserved.ensures.len, c.loop-left.invariant.length);
      capacity = c.push_back_reserved.ensures.capacity ∙ c.pop_front.ensures.capacity ∙ c.loop-left.invariant.capacity;
    }

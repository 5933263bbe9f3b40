use Rattle.std.proofs.Common.{◌-◌, ◌++◌, take, ap, ◌∙◌, arith}
use Rattle.mvt_splices.proofs.Gaps.{passed}
use Rattle.mvt_splices.proofs.gap.pass_on.Goals as goal

pub loop-left-preserved : goal.loop-left-preserved
loop-left-preserved g c =
    let n = c.loop-left.left - 1 in
    let rest = c.pop_front.new.self.items in
    let moved = passed c.loop-left.left n c.loop-left.ring.items rest c.loop-left.to.items c.in-Some.item (omega (arith, c.loop-left-test.true)) c.in-Some.ensures.items in
    record {
      there = omega (arith, c.in-Some.ensures.len);
      room = omega (arith, c.push_back_reserved.ensures.len, c.push_back_reserved.ensures.capacity);
      ring = moved.0 ∙ c.loop-left.invariant.ring;
      to = ap (λ front. front ++ take n rest) c.push_back_reserved.ensures.items ∙ moved.1 ∙ c.loop-left.invariant.to;
      length = omega (arith, c.in-Some.ensures.len, c.loop-left.invariant.length);
      to_length = omega (arith, c.push_back_reserved.ensures.len, c.loop-left.invariant.to_length);
      ring_room = c.pop_front.ensures.capacity ∙ c.loop-left.invariant.ring_room;
      to_room = c.push_back_reserved.ensures.capacity ∙ c.loop-left.invariant.to_room;
    }

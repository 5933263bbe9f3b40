use Rattle.std.proofs.Common.{◌≤◌, suc, ◌≡◌, ◌-◌, [], ◌∷◌, ◌++◌, ◌∙◌, ap, take, drop, length, arith}
use Rattle.mvt_splices.proofs.Gaps.{traded}
use Rattle.mvt_splices.proofs.gap.trade.Goals as goal

pub loop-left-preserved : goal.loop-left-preserved
loop-left-preserved g c =
    let l = c.loop-left in
    let n = l.left - 1 in
    let rest = c.pop_front.new.self.items in
    let following = c.pop_front-in-loop-left.new.self.items in
    let item = c.in-Some.item in
    let new = c.in-Some-pop_front.new in
    let more : l.left ≡ suc n = omega (arith, c.loop-left-test.true) in
    let within : n ≤ length rest = omega (arith, c.in-Some.ensures.len) in
    let also : n ≤ length following = omega (arith, c.in-Some-pop_front.ensures.len) in
    let pushed = c.push_back_reserved.ensures in
    let given = c.push_back_reserved-in-loop-left.ensures in
    let at = c.in-Some.ensures.items in
    let beside = c.in-Some-pop_front.ensures.items in
    record {
      there = omega (arith, c.in-Some.ensures.len, pushed.len);
      here = omega (arith, c.in-Some-pop_front.ensures.len, given.len);
      ring = ap (λ xs. drop n xs ++ take n c.push_back_reserved-in-loop-left.new.self.items) pushed.items ∙ ap (λ xs. drop n (rest ++ new ∷ []) ++ take n xs) given.items ∙ traded l.left n l.ring.items rest l.other.items following item new more at beside within also ∙ l.invariant.ring;
      other = ap (λ xs. drop n xs ++ take n c.push_back_reserved.new.self.items) given.items ∙ ap (λ xs. drop n (following ++ item ∷ []) ++ take n xs) pushed.items ∙ traded l.left n l.other.items following l.ring.items rest new item more beside at also within ∙ l.invariant.other;
      length = omega (arith, c.in-Some.ensures.len, pushed.len, l.invariant.length);
      other_length = omega (arith, c.in-Some-pop_front.ensures.len, given.len, l.invariant.other_length);
      ring_room = pushed.capacity ∙ c.pop_front.ensures.capacity ∙ l.invariant.ring_room;
      other_room = given.capacity ∙ c.pop_front-in-loop-left.ensures.capacity ∙ l.invariant.other_room;
    }

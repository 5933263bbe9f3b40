use Rattle.std.proofs.Common.{◌≡◌, ◌≤◌, suc, ◌-◌, [], ◌∷◌, ◌++◌, length, take, drop, append_assoc, sym, ap, ◌∙◌, arith}
use Rattle.std.proofs.lemmas.List.{drop-append-le, take-append-le}
use Rattle.std.specs.VecDeque.{deque_len}
use Rattle.mvt_splices.proofs.gap.turn_few_back.Goals as goal

pub loop-left-preserved : goal.loop-left-preserved
loop-left-preserved g c =
    let item = c.in-Some.item in
    let rest = c.pop_back.new.self.items in
    let k = deque_len c.loop-left.ring - c.loop-left.left in
    let at : c.loop-left.ring.items ≡ rest ++ item ∷ [] = c.in-Some.ensures.items in
    let within : k ≤ length rest = omega (arith, c.in-Some.ensures.cases, c.loop-left-test.true) in
    let next : deque_len c.push_front_reserved.new.self - (c.loop-left.left - 1) ≡ suc k = omega (arith, c.in-Some.ensures.cases, c.push_front_reserved.ensures.len, c.loop-left-test.true, c.loop-left.invariant.there) in
    record {
      there = omega (arith, c.in-Some.ensures.cases, c.push_front_reserved.ensures.len);
      room = omega (arith, c.in-Some.ensures.cases, c.pop_back.ensures.capacity, c.push_front_reserved.ensures.len, c.push_front_reserved.ensures.capacity);
      items = ap (λ n. drop n c.push_front_reserved.new.self.items ++ take n c.push_front_reserved.new.self.items) next
          ∙ ap (λ ring. drop (suc k) ring ++ take (suc k) ring) c.push_front_reserved.ensures.items
          ∙ sym (append_assoc (drop k rest) (item ∷ []) (take k rest))
          ∙ ap (λ back. (drop k rest ++ item ∷ []) ++ back) (sym (take-append-le k rest (item ∷ []) within))
          ∙ ap (λ front. front ++ take k (rest ++ item ∷ [])) (sym (drop-append-le k rest (item ∷ []) within))
          ∙ ap (λ items. drop k items ++ take k items) (sym at)
          ∙ c.loop-left.invariant.items;
      length = omega (arith, c.in-Some.ensures.cases, c.push_front_reserved.ensures.len, c.loop-left.invariant.length);
      capacity = c.push_front_reserved.ensures.capacity ∙ c.pop_back.ensures.capacity ∙ c.loop-left.invariant.capacity;
    }

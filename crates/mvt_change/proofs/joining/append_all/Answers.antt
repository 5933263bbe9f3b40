use Rattle.std.proofs.Common.{◌≡◌, List, ◌++◌, append_assoc, length, map, reverse, sym, ap, ◌∙◌, arith}
use Rattle.std.proofs.lemmas.List.{map-append}
use Rattle.mvt_document.specs.Held.{Held}
use Rattle.mvt_change.specs.declared.change.Step.{Step}
use Rattle.mvt_change.specs.ChangeStands.{change_of, step_of}
use Rattle.mvt_change.specs.Joining.{joined}
use Rattle.mvt_change.proofs.JoinedChanges.{length_joined_last, joined_from_last}
use Rattle.mvt_change.proofs.Ordered.{either, in_order_of, same_length}
use Rattle.mvt_change.proofs.joining.append_all.Goals as goal

pub unwrap-requires : goal.unwrap-requires
unwrap-requires c =
    let rest = c.pop.new.self.items in
    let other = c.in-Some.other in
    let more = ap (λ all. length (joined (map change_of all))) c.in-Some.ensures.items ∙ length_joined_last rest other in
    let given = ap (λ (list : Held Step). length list.items) c.as_vec_mut.ensures.value in
    let room = ap (λ (list : Held Step). list.room) c.as_vec_mut-steps.ensures.value in
    let alike = same_length c.in_order.new.self other c.in_order.ensures.change in
    c.append.ensures.succeeds (omega (arith, c.loop-other.invariant.room, more, given, room, alike))

pub loop-other-preserved : goal.loop-other-preserved
loop-other-preserved c =
    let items : Held Step → List Step = λ list. list.items in
    let change = c.loop-other.change in
    let rest = c.pop.new.self.items in
    let other = c.in-Some.other in
    let more = ap (λ all. length (joined (map change_of all))) c.in-Some.ensures.items ∙ length_joined_last rest other in
    let mine = ap items c.as_vec_mut-steps.ensures.value in
    let given = ap items c.as_vec_mut.ensures.value in
    let room = ap (λ (list : Held Step). list.room) c.as_vec_mut-steps.ensures.value in
    let appended = rw c.unwrap.ensures at c.append.ensures.items in
    let long = rw c.unwrap.ensures at c.append.ensures.len in
    let started = c.in_order.new.self in
    let alike = same_length started other c.in_order.ensures.change in
    let order = c.loop-other.invariant.order in
    let steps : map step_of c.append.new.self.items ≡ change_of change ++ change_of other =
    ap (map step_of) (appended ∙ ap (λ xs. xs ++ c.as_vec_mut.result.now.items) mine ∙ ap (λ ys. change.steps.items ++ ys) given)
    ∙ map-append step_of change.steps.items started.steps.items
    ∙ ap (λ front. front ++ map step_of started.steps.items) (sym (in_order_of change order))
    ∙ ap (λ back. change_of change ++ back) (sym (in_order_of started c.in_order.ensures.order) ∙ c.in_order.ensures.change) in
    record {
      room = omega (arith, c.loop-other.invariant.room, more, ap length given, room, long, c.append.ensures.capacity, alike);
      order = order;
      rest =
          ap (λ front. front ++ joined (reverse (map change_of rest))) (ap (λ backwards. either backwards c.append.new.self.items) order ∙ steps)
          ∙ append_assoc (change_of change) (change_of other) (joined (reverse (map change_of rest)))
          ∙ ap (λ more. change_of change ++ more) (sym (joined_from_last rest other) ∙ ap (λ all. joined (reverse (map change_of all))) (sym c.in-Some.ensures.items))
          ∙ c.loop-other.invariant.rest;
    }

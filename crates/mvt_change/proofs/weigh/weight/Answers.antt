use Rattle.std.proofs.Common.{◌≡◌, ℕ, ◌+◌, ◌<◌, ◌≤◌, List, length, get_or, take, map, sym, ap, ◌∙◌, arith}
use Rattle.std.specs.List.{sum_by}
use Rattle.std.proofs.lemmas.List.{length-map, take-map, take_all, get_or-map}
use Rattle.std.proofs.lemmas.List.Sums.{sum_by_more_le}
use Rattle.mvt_change.specs.ChangeStands.{step_of}
use Rattle.mvt_change.specs.Changes.{step_weight}
use Rattle.mvt_change.proofs.Ordered.{weight_of_change}
use Rattle.mvt_change.proofs.weigh.weight.Goals as goal

-- the steps before one and that step weigh no more than all
sum_with_next : {X Y : Type 0} (weigh : Y → ℕ) (stands : X → Y) (xs : List X) (i : ℕ) (x : X) → i < length xs → x ≡ get_or xs i x → sum_by weigh (map stands (take i xs)) + weigh (stands x) ≤ sum_by weigh (map stands xs)
sum_with_next weigh stands xs i x inside is =
    let front = ap (sum_by weigh) (take-map stands i xs) in
    let item = ap weigh (get_or-map stands xs i x (stands x) inside ∙ ap stands (sym is)) in
    omega (arith, front, item, sum_by_more_le weigh (map stands xs) i (stands x) (omega (arith, inside, length-map xs stands)))

pub step_weight-weight-requires : goal.step_weight-weight-requires
step_weight-weight-requires c =
    let within = rw c.as_slice-step-items.ensures at (sum_with_next step_weight step_of c.as_slice-step-items.result.now c.loop-step.step-index c.step-item.result c.loop-step-test.true c.step-item.is) in
    omega (arith, within, c.requires, weight_of_change c.args.change.now)

pub overflow_add-weight : goal.overflow_add-weight
overflow_add-weight c =
    let within = rw c.as_slice-step-items.ensures at (sum_with_next step_weight step_of c.as_slice-step-items.result.now c.loop-step.step-index c.step-item.result c.loop-step-test.true c.step-item.is) in
    let so_far = rw c.as_slice-step-items.ensures at c.loop-step.invariant in
    omega (arith, within, so_far, c.requires, weight_of_change c.args.change.now, c.step_weight-weight.ensures)

pub returns : goal.returns
returns c =
    let steps = c.as_slice-step-items.result.now in
    c.loop-step.invariant
    ∙ ap (λ part. sum_by step_weight (map step_of part)) (take_all c.loop-step.step-index steps (omega (arith, c.loop-step-test.false)) ∙ c.as_slice-step-items.ensures)
    ∙ sym (weight_of_change c.args.change.now)

use Rattle.std.proofs.Common.{map, sym, ap, ◌∙◌, arith}
use Rattle.std.specs.List.{sum_by}
use Rattle.std.proofs.lemmas.List.{take_all}
use Rattle.mvt_change.specs.ChangeStands.{step_of}
use Rattle.mvt_change.specs.Changes.{step_weight}
use Rattle.mvt_change.proofs.Ordered.{weight_of_change}
use Rattle.test_fixtures.proofs.weights.known_weight.Goals as goal

pub returns : goal.returns
returns c =
    let steps = c.as_slice-step-items.result.now in
    weight_of_change c.args.change.now
    ∙ ap (λ part. sum_by step_weight (map step_of part)) (sym (take_all c.loop-step.step-index steps (omega (arith, c.loop-step-test.false)) ∙ c.as_slice-step-items.ensures))
    ∙ sym c.loop-step.invariant

-- A step that is opened and cancelled leaves the very history before it, and so does one that ends without a command.
use Rattle.std.proofs.Common.{◌≡◌, None, Some, Ok, [], sym, ap, ◌∙◌}
use Rattle.mvt_history_steps.specs.History.{History, with_group, closed, cancelled}
use Rattle.run_laws.specs.HistoryLaws.{EmptyStepLeavesNoTrace, CancelLeavesNoTrace}
use Rattle.run_laws.proofs.OpenStep.{within_step}

-- where no step was open, this is the very history
without_step : (history : History) → history.group ≡ None → with_group None history ≡ history
without_step history alone = ap (λ group. with_group group history) (sym alone)

pub empty_step_leaves_no_trace : EmptyStepLeavesNoTrace
empty_step_leaves_no_trace requests history opening open_so leave empty =
    let step = within_step requests history opening open_so leave in
    let held = step.1.1 in
    let none : Some step.1.0 ≡ Some [] = sym (ap (λ h. h.group) held) ∙ empty in
    ap closed held ∙ ap (λ group. closed (with_group group history)) none ∙ ap Ok (without_step history step.0)

pub cancel_leaves_no_trace : CancelLeavesNoTrace
cancel_leaves_no_trace requests history opening open_so leave =
    let step = within_step requests history opening open_so leave in
    ap cancelled step.1.1 ∙ ap Ok (without_step history step.0)

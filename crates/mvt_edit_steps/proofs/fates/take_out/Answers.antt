use Rattle.std.proofs.Common.{◌≤◌, ◌++◌, filter, length, map, refl, ap, arith, ◌∙◌}
use Rattle.std.proofs.lemmas.Result.{IfOk-weaker}
use Rattle.mvt_change.specs.ChangeStands.{step_of}
use Rattle.mvt_renumber.specs.Fates.{changes}
use Rattle.mvt_edit_steps.specs.Fates.{splices_of}
use Rattle.mvt_edit_steps.proofs.Following.{all_said, all_steps, goes_on, nothing_yet}
use Rattle.mvt_edit_steps.proofs.Marked.{marked_more}
use Rattle.mvt_edit_steps.proofs.Walking.{can_pass}
use Rattle.mvt_edit_steps.proofs.fates.take_out.Goals as goal

pub loop-index-init : goal.loop-index-init
loop-index-init g c = rw c.first-walk.ensures (nothing_yet refl)

pub loop-index-preserved : goal.loop-index-preserved
loop-index-preserved g c =
    let kept = c.loop-index.invariant in
    let made = c.in_ok-walk.ensures in
    let said = marked_more c.args.picked.now c.loop-index.index _ kept.fates c.goes_if.result (omega arith) kept.said c.goes_if.ensures in
    goes_on kept c.goes_if.result c.pass.new.steps.items c.in_ok-walk.walk said made.steps made.ends (made.take c.loop-index.index kept.taken) made.next made.changed

pub returns : goal.returns
returns g c = λ step_with means.
    let kept = c.loop-index.invariant in
    let given = map step_of c.args.steps.now.items in
    let all : length c.args.picked.now ≤ c.loop-index.index = let done = c.loop-index-test.false in omega arith in
    let fates = all_said kept all in
    IfOk-weaker c.end.result _ _ (λ changed ended. record {
      following = all_steps kept c.end.new.steps.items step_with means ended.0 ∙ ap (λ all. given ++ map step_with (splices_of all)) fates;
      counted = ended.1 ∙ kept.counted ∙ ap (λ all. length (filter changes all)) fates;
    }) (c.end.ensures step_with means)

pub pass-requires-clause-ends : goal.pass-requires-clause-ends
pass-requires-clause-ends g c = can_pass c.loop-index.invariant (omega arith)

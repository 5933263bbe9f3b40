use Rattle.std.proofs.Common.{◌≤◌, Ok, length, arith, ◌∙◌}
use Rattle.std.proofs.lemmas.Result.{IfOk-weaker}
use Rattle.std.proofs.lemmas.Fn.{says_at}
use Rattle.std.specs.Fn.{FnReturnsAt}
use Rattle.mvt_edit_steps.proofs.Following.{all_said, all_steps, goes_on, nothing_yet, one_more_answered}
use Rattle.mvt_edit_steps.proofs.Walking.{can_pass}
use Rattle.mvt_edit_steps.proofs.fates.carry_out.Goals as goal

pub loop-index-init : goal.loop-index-init
loop-index-init g c = rw c.first-walk.ensures (nothing_yet tt)

pub loop-index-preserved : goal.loop-index-preserved
loop-index-preserved g c =
    let kept = c.loop-index.invariant in
    let made = c.in_ok-walk.ensures in
    let answered = one_more_answered (λ item fate. FnReturnsAt g.F.Fn c.args.fate_of item (Ok fate)) c.args.items.now c.loop-index.index c.index-items-index.result kept.fates c.in_ok-fate.fate (omega arith) c.index-items-index.is kept.said (says_at g.F.Fn c.fate_of.ensures c.in_ok-fate.was) in
    goes_on kept c.in_ok-fate.fate c.pass.new.steps.items c.in_ok-walk.walk answered made.steps made.ends (made.take c.loop-index.index kept.taken) made.next made.changed

pub returns : goal.returns
returns g c = λ step_with means.
    let kept = c.loop-index.invariant in
    let all : length c.args.items.now ≤ c.loop-index.index = let done = c.loop-index-test.false in omega arith in
    IfOk-weaker c.end.result _ _ (λ changed ended. (kept.fates, all_said kept all, record { following = all_steps kept c.end.new.steps.items step_with means ended.0; counted = ended.1 ∙ kept.counted })) (c.end.ensures step_with means)

pub pass-requires-clause-ends : goal.pass-requires-clause-ends
pass-requires-clause-ends g c = can_pass c.loop-index.invariant (omega arith)

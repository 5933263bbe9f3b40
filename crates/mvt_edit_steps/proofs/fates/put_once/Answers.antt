use Rattle.std.proofs.Common.{◌≤◌, ◌++◌, [], Some, length, map, refl, sym, ap, arith, ◌∙◌, append_assoc}
use Rattle.std.proofs.lemmas.Fn.{says_at}
use Rattle.std.proofs.lemmas.List.{append-nil, map-append}
use Rattle.std.proofs.lemmas.Result.{IfOk-weaker}
use Rattle.std.specs.Fn.{FnReturnsAt}
use Rattle.mvt_change.specs.ChangeStands.{step_of}
use Rattle.mvt_edit_steps.specs.Fates.{splices_of}
use Rattle.mvt_edit_steps.specs.Once.{at_end, left_once, once_fates}
use Rattle.mvt_edit_steps.proofs.Following.{all_said, goes_on, nothing_yet}
use Rattle.mvt_edit_steps.proofs.Once.{once_more}
use Rattle.mvt_edit_steps.proofs.Walking.{can_pass}
use Rattle.mvt_edit_steps.proofs.fates.put_once.Goals as goal

pub loop-index-init : goal.loop-index-init
loop-index-init g c = rw c.first-walk.ensures (nothing_yet (record { picked = []; answered = tt; fates_so = refl; left_so = refl }))

pub loop-index-preserved : goal.loop-index-preserved
loop-index-preserved g c =
    let kept = c.loop-index.invariant in
    let made = c.in_ok-walk.ensures in
    let item = c.index-items-index.result in
    let fate = c.once-fate.result.0 in
    let said = once_more (λ item is. FnReturnsAt g.P.Fn c.args.passes item is) c.args.items.now c.loop-index.index item c.passes.result (Some c.args.new) c.loop-index.left c.once-fate.result.1 kept.fates fate (omega arith) c.index-items-index.is kept.said (says_at g.P.Fn c.passes.ensures refl) c.once-fate.ensures.fate c.once-fate.ensures.left in
    goes_on kept fate c.pass.new.steps.items c.in_ok-walk.walk said made.steps made.ends (made.take c.loop-index.index kept.taken) made.next made.changed

pub returns : goal.returns
returns g c = λ step_with means.
    let kept = c.loop-index.invariant in
    let given = map step_of c.args.steps.now.items in
    let all : length c.args.items.now ≤ c.loop-index.index = let done = c.loop-index-test.false in omega arith in
    let said = all_said kept all in
    let picked = said.picked in
    let first = splices_of (once_fates picked (Some c.args.new)) in
    let last = at_end (left_once picked (Some c.args.new)) c.args.end in
    let ended = sym (kept.so_far step_with means []) ∙ ap (λ fates. given ++ map step_with (splices_of fates)) (append-nil kept.fates ∙ said.fates_so) in
    IfOk-weaker c.end_with.result _ _ (λ done put. (
      picked,
      said.answered,
      put
          ∙ ap (λ before. before ++ map step_with (at_end c.loop-index.left c.args.end)) ended
          ∙ ap (λ left. (given ++ map step_with first) ++ map step_with (at_end left c.args.end)) said.left_so
          ∙ append_assoc given (map step_with first) (map step_with last)
          ∙ ap (λ steps. given ++ steps) (sym (map-append step_with first last)),
    )) (c.end_with.ensures step_with means)

pub pass-requires-clause-ends : goal.pass-requires-clause-ends
pass-requires-clause-ends g c = can_pass c.loop-index.invariant (omega arith)

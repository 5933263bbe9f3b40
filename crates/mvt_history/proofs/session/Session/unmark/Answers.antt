use Rattle.std.proofs.Common.{◌≡◌, subst, sym}
use Rattle.std.specs.Option.{ok_or}
use Rattle.std.specs.Result.{OnErr}
use Rattle.mvt_history_steps.specs.History.{unmarked}
use Rattle.mvt_history_steps.specs.Held.{IsHeld}
use Rattle.mvt_history.specs.Inside.{seen_in}
use Rattle.mvt_history_steps.specs.Session.{StandsFor, Answers}
use Rattle.mvt_history.specs.Kept.{with_names}
use Rattle.mvt_history_steps.specs.declared.error.HistoryError.TheVariants.{NoMark}
use Rattle.mvt_history.proofs.Moving.{seen_closed}
use Rattle.mvt_history.proofs.Marking.{unmarked_held, unmark_answers, unmark_kept}
use Rattle.mvt_history.proofs.session.Session.unmark.Goals as goal

pub invariant_of-self : goal.invariant_of-self
invariant_of-self c =
    let s = c.self.inside in
    let session = seen_in s in
    let held = unmarked_held s.undo.capacity s.redo.capacity c.args.name.now session c.self.invariant in
    subst (λ marks. IsHeld s.undo.capacity s.redo.capacity (with_names marks session)) (sym c.unbind.ensures.marks) held

pub returns-clause-answer : goal.returns-clause-answer
returns-clause-answer c = λ history stands.
    let s = c.self.inside in
    let session = seen_in s in
    let before = subst (λ s. StandsFor s history) (sym c.self.view_is) stands in
    let closed = seen_closed session c.args.self.now c.in_ok-ensure_closed.field-0 c.self.view_is c.in_ok-ensure_closed.ensures in
    let answer = unmark_answers c.args.name.now session history c.unbind.result c.unbind.ensures.there closed before in
    rw c.ok_or.ensures.value (subst (λ marks. Answers (unmarked c.args.name.now history) history (ok_or c.unbind.result NoMark) (with_names marks session)) (sym c.unbind.ensures.marks) answer)

pub returns-clause-err : goal.returns-clause-err
returns-clause-err c =
    let s = c.self.inside in
    let session = seen_in s in
    let kept = unmark_kept c.args.name.now session c.args.self.now c.unbind.result c.unbind.ensures.there c.self.view_is in
    rw c.ok_or.ensures.value (subst (λ marks. OnErr (ok_or c.unbind.result NoMark) (with_names marks session ≡ c.args.self.now)) (sym c.unbind.ensures.marks) kept)

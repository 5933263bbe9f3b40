use Rattle.std.proofs.Common.{refl, ap, ◌∙◌, subst, sym, inr}
use Rattle.mvt_document.specs.Stands.{document_of}
use Rattle.mvt_change.specs.Joining.{go_along}
use Rattle.mvt_history_steps.specs.Held.{from_last}
use Rattle.mvt_history.specs.Inside.{seen_in}
use Rattle.mvt_history_steps.specs.Session.{StandsFor}
use Rattle.mvt_history_steps.proofs.Stepping.{length_from_last}
use Rattle.mvt_history.proofs.KeepingCommands.{all_taken, seen_open, stopped_held, cancelled_held, step_stopped, step_cancelled}
use Rattle.mvt_history.proofs.session.Session.cancel.Goals as goal

-- ---- stopped within the step

pub invariant_of-self-in-Err : goal.invariant_of-self-in-Err
invariant_of-self-in-Err c =
    let s = c.self.inside in
    let session = seen_in s in
    let is = seen_open s.pending c.in-Some.pending c.in-Some.is in
    rw (c.in-Err.ensures.document, c.in-Err.ensures.changes)
    (stopped_held s.undo.capacity s.redo.capacity session (from_last c.in-Some.pending.items) c.in-Err.taken is c.self.invariant)

pub returns-in-Err-clause-answer : goal.returns-in-Err-clause-answer
returns-in-Err-clause-answer c = λ history stands.
    let s = c.self.inside in
    let session = seen_in s in
    let before = subst (λ s. StandsFor s history) (sym c.self.view_is) stands in
    let changes = c.in-Some.pending.items in
    let is = seen_open s.pending c.in-Some.pending c.in-Some.is in
    let some = rw (← length_from_last changes) at c.in-Err.ensures.err in
    let stopped = step_stopped history session (from_last changes) c.in-Err.taken is some before in
    inr (c.in-Err.taken, stopped.0, refl, stopped.1, rw (c.in-Err.ensures.document, c.in-Err.ensures.changes) stopped.2)

-- ---- all taken back

pub invariant_of-self-2 : goal.invariant_of-self-2
invariant_of-self-2 c =
    let s = c.self.inside in
    let session = seen_in s in
    let changes = c.in-Some.pending.items in
    let is = seen_open s.pending c.in-Some.pending c.in-Some.is in
    let document = c.in_default-take_back.ensures.document ∙ ap (λ changes. go_along changes (document_of s.document)) (all_taken changes) in
    rw document (cancelled_held s.undo.capacity s.redo.capacity session (from_last changes) is c.self.invariant)

pub returns-clause-answer : goal.returns-clause-answer
returns-clause-answer c = λ history stands.
    let s = c.self.inside in
    let session = seen_in s in
    let before = subst (λ s. StandsFor s history) (sym c.self.view_is) stands in
    let changes = c.in-Some.pending.items in
    let is = seen_open s.pending c.in-Some.pending c.in-Some.is in
    let document = c.in_default-take_back.ensures.document ∙ ap (λ changes. go_along changes (document_of s.document)) (all_taken changes) in
    rw document (step_cancelled history session (from_last changes) is before)

use Rattle.std.proofs.Common.{◌≡◌, Ok, true, map, refl, ap, ◌∙◌, subst, sym, inr}
use Rattle.mvt_history_steps.specs.Marks.{bound}
use Rattle.mvt_history_steps.specs.History.{History, marked}
use Rattle.mvt_history_steps.specs.Held.{IsHeld, mark_of}
use Rattle.mvt_history.specs.Inside.{seen_in}
use Rattle.mvt_history.specs.Kept.{with_names}
use Rattle.mvt_history.specs.Refusing.{has_room}
use Rattle.mvt_history_steps.specs.Session.{StandsFor}
use Rattle.mvt_history_steps.proofs.Stepping.{length_from_last}
use Rattle.mvt_history.proofs.Moving.{seen_closed}
use Rattle.mvt_history.proofs.Marking.{marked_held, marked_answers, marked_refused}
use Rattle.mvt_history.proofs.session.Session.mark.Goals as goal

pub returns-then-not-has_room-clause-answer : goal.returns-then-not-has_room-clause-answer
returns-then-not-has_room-clause-answer c = λ history stands.
    let seen = c.args.self.now in
    let closed = seen_closed seen seen c.in_ok-ensure_closed.field-0 refl c.in_ok-ensure_closed.ensures in
    let full = sym c.has_room.ensures ∙ c.if-not-has_room.true in
    (inr (marked_refused c.args.name.now seen history closed full stands), stands)

room_left : (c : goal.In_ok-bind) → has_room c.args.name.now (map mark_of c.self.inside.marks.items) ≡ true
room_left c = ap (λ session. has_room c.args.name.now session.marks) c.self.view_is ∙ sym c.has_room.ensures ∙ c.if-not-has_room.false

pub invariant_of-self-2 : goal.invariant_of-self-2
invariant_of-self-2 c =
    let s = c.self.inside in
    let session = seen_in s in
    let present = c.len.ensures.len ∙ sym (length_from_last s.undo.items) in
    let marks = c.in_ok-bind.ensures.marks ∙ ap (λ point. bound c.args.name.now point session.marks) present in
    let held = marked_held s.undo.capacity s.redo.capacity c.args.name.now session (room_left c) c.self.invariant in
    subst (λ marks. IsHeld s.undo.capacity s.redo.capacity (with_names marks session)) (sym marks) held

pub returns-clause-answer : goal.returns-clause-answer
returns-clause-answer c = λ history stands.
    let s = c.self.inside in
    let session = seen_in s in
    let before = subst (λ s. StandsFor s history) (sym c.self.view_is) stands in
    let closed = seen_closed session c.args.self.now c.in_ok-ensure_closed.field-0 c.self.view_is c.in_ok-ensure_closed.ensures in
    let present = c.len.ensures.len ∙ sym (length_from_last s.undo.items) in
    let marks = c.in_ok-bind.ensures.marks ∙ ap (λ point. bound c.args.name.now point session.marks) present in
    let answer = marked_answers c.args.name.now session history closed (room_left c) before in
    subst (λ marks. (after : History) × (marked c.args.name.now history ≡ Ok after) × StandsFor (with_names marks session) after) (sym marks) answer

use Rattle.std.proofs.Common.{map, refl, ap, ◌∙◌, subst, sym, inl, rules}
use Rattle.mvt_history_steps.specs.Marks.{point_of}
use Rattle.mvt_history_steps.specs.Moves.{LeadsAlong}
use Rattle.mvt_history_steps.specs.Held.{mark_of}
use Rattle.mvt_history_steps.specs.Standing.{IsReady}
use Rattle.mvt_history.specs.Inside.{seen_in}
use Rattle.mvt_history_steps.specs.Session.{StandsFor}
use Rattle.mvt_history_steps.proofs.Stepping.{length_from_last}
use Rattle.mvt_history.proofs.Moving.{seen_closed}
use Rattle.mvt_history.proofs.Marking.{back_refused, way_to_mark, back_answers, stopped_from}
use Rattle.mvt_history.proofs.session.Session.back.Goals as goal

pub returns-in_default-clause-answer : goal.returns-in_default-clause-answer
returns-in_default-clause-answer c = λ history stands.
    let s = c.self.inside in
    let session = seen_in s in
    let before = subst (λ s. StandsFor s history) (sym c.self.view_is) stands in
    let closed = seen_closed session c.args.self.now c.in_ok-ensure_closed.field-0 c.self.view_is c.in_ok-ensure_closed.ensures in
    let unnamed = sym (c.in_default.ensures ∙ ap (λ marks. point_of c.args.name.now (map mark_of marks)) c.as_slice.ensures.value) in
    inl (back_refused c.args.name.now session history closed unnamed before, stands)

pub walk-requires-clause-enough : goal.walk-requires-clause-enough
walk-requires-clause-enough c =
    let s = c.self.inside in
    let session = seen_in s in
    let found = sym (c.in-Some.ensures ∙ ap (λ marks. point_of c.args.name.now (map mark_of marks)) c.as_slice.ensures.value) in
    let way = subst (λ n. LeadsAlong c.way-direction.result.0 c.way-direction.result.1 n c.in-Some.point) (c.len.ensures.len ∙ sym (length_from_last s.undo.items)) c.way-direction.ensures in
    (way_to_mark s.undo.capacity s.redo.capacity c.args.name.now c.in-Some.point c.way-direction.result.0 c.way-direction.result.1 session c.args.self.now c.self.view_is found way c.self.invariant).enough

pub returns-clause-answer : goal.returns-clause-answer
returns-clause-answer c = λ history stands.
    let s = c.self.inside in
    let session = seen_in s in
    let found = sym (c.in-Some.ensures ∙ ap (λ marks. point_of c.args.name.now (map mark_of marks)) c.as_slice.ensures.value) in
    let way = subst (λ n. LeadsAlong c.way-direction.result.0 c.way-direction.result.1 n c.in-Some.point) (c.len.ensures.len ∙ sym (length_from_last s.undo.items)) c.way-direction.ensures in
    let mark = way_to_mark s.undo.capacity s.redo.capacity c.args.name.now c.in-Some.point c.way-direction.result.0 c.way-direction.result.1 session c.args.self.now c.self.view_is found way c.self.invariant in
    let ready = subst IsReady c.self.view_is c.self.invariant.ready in
    let closed = seen_closed c.args.self.now c.args.self.now c.in_ok-ensure_closed.field-0 refl c.in_ok-ensure_closed.ensures in
    let is = stopped_from c.walk.result c.map_err.result _ (λ taken error gives. search rules) c.map_err.ensures.cases in
    back_answers c.args.name.now c.way-direction.result.0 c.in-Some.point c.way-direction.result.1 c.args.self.now c.walk.new.self history c.walk.result c.map_err.result is closed ready mark c.walk.ensures.ok c.walk.ensures.err stands

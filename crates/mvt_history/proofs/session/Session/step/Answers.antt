use Rattle.std.proofs.Common.{refl, ◌∙◌, ap, Err}
use Rattle.std.proofs.lemmas.Result.{err_from_is_err_and}
use Rattle.mvt_history.proofs.Moving.{seen_closed, lies_ahead, refusal_answers, step_answers}
use Rattle.mvt_history.proofs.session.Session.step.Goals as goal

pub returns-in_err-ensure_ahead-clause-answer : goal.returns-in_err-ensure_ahead-clause-answer
returns-in_err-ensure_ahead-clause-answer c = λ history stands.
    let seen = c.args.self.now in
    let closed = seen_closed seen seen c.in_ok-ensure_closed.field-0 refl c.in_ok-ensure_closed.ensures in
    let q = err_from_is_err_and c.from_residual-in_err-ensure_ahead.result c.from_residual-in_err-ensure_ahead.ensures.1 in
    refusal_answers c.args.direction seen history c.from_residual-in_err-ensure_ahead.result c.in_err-ensure_ahead.field-0.0 (q.1 ∙ ap Err q.2) closed c.in_err-ensure_ahead.ensures.ahead stands

pub returns-clause-answer : goal.returns-clause-answer
returns-clause-answer c = λ history stands.
    let seen = c.args.self.now in
    let direction = c.args.direction in
    let closed = seen_closed seen seen c.in_ok-ensure_closed.field-0 refl c.in_ok-ensure_closed.ensures in
    let some = lies_ahead direction seen c.in_ok-ensure_ahead.field-0 c.in_ok-ensure_ahead.ensures.ahead in
    rw c.or.ensures (step_answers direction seen c.walk.new.self history c.walk.result closed c.in_ok-ensure_ahead.ensures.ready some c.walk.ensures.ok c.walk.ensures.err stands)

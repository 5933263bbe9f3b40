use Rattle.std.proofs.Common.{subst, sym}
use Rattle.mvt_history.specs.Inside.{seen_in}
use Rattle.mvt_history_steps.specs.Session.{StandsFor}
use Rattle.mvt_history.proofs.Moving.{seen_closed, opened_answers}
use Rattle.mvt_history.proofs.session.Session.begin.Goals as goal

pub returns-clause-answer : goal.returns-clause-answer
returns-clause-answer c = λ history stands.
    let s = c.self.inside in
    let session = seen_in s in
    let before = subst (λ s. StandsFor s history) (sym c.self.view_is) stands in
    let closed = seen_closed session c.args.self.now c.in_ok-ensure_closed.field-0 c.self.view_is c.in_ok-ensure_closed.ensures in
    rw c.new.ensures.items (opened_answers session history closed before)

use Rattle.std.proofs.Common.{is_some, refl, sym, ap, ◌∙◌}
use Rattle.mvt_history.proofs.KeepingCommands.{seen_is_some}
use Rattle.mvt_history.proofs.session.Session.ensure_closed.Goals as goal

pub returns-then-is_some : goal.returns-then-is_some
returns-then-is_some c = rw (sym (c.if-is_some.ensures ∙ sym (seen_is_some c.self.inside.pending) ∙ ap (λ session. is_some session.pending) c.self.view_is)) refl

pub returns : goal.returns
returns c = rw (sym (c.if-is_some.ensures ∙ sym (seen_is_some c.self.inside.pending) ∙ ap (λ session. is_some session.pending) c.self.view_is)) refl

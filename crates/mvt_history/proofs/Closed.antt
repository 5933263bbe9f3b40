-- A session that keeps no changes of an open step stands for a history in which no step is open.
use Rattle.std.proofs.Common.{◌≡◌, Option, Some, None, List, refl, ap, ◌∙◌}
use Rattle.mvt_document.specs.Plain.{Document}
use Rattle.mvt_meaning.specs.Command.{Command}
use Rattle.mvt_change.specs.Changes.{Change}
use Rattle.mvt_history_steps.specs.History.{History, after_all, present_document, standing_document, commands_in}
use Rattle.mvt_history_steps.specs.Reached.{LeadOut}
use Rattle.mvt_history_steps.specs.Standing.{Standing}
use Rattle.mvt_history_steps.specs.Session.{StandsFor}

none_open : (group : Option (List Command)) (document : Document) (pending : Option (List Change)) → pending ≡ None → LeadOut group document pending → group ≡ None
none_open None document pending closed out = refl
none_open (Some commands) document None closed out = absurd out
none_open (Some commands) document (Some changes) closed out = absurd cc

pub is_closed : (session : Standing) (history : History) → session.pending ≡ None → StandsFor session history → history.group ≡ None
is_closed session history closed stands = none_open history.group (present_document history) session.pending closed stands.pending_leads

pub standing_alone : (history : History) → history.group ≡ None → standing_document history ≡ present_document history
standing_alone history alone = ap (λ group. after_all (commands_in group) (present_document history)) alone

pub stands_present : (session : Standing) (history : History) → session.pending ≡ None → StandsFor session history → session.document ≡ present_document history
stands_present session history closed stands = stands.document ∙ standing_alone history (is_closed session history closed stands)

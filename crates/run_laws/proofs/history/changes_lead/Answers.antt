use Rattle.run_laws.proofs.Reaching.{changes_lead}
use Rattle.run_laws.proofs.history.changes_lead.Goals as goal

pub returns : goal.returns
returns c = changes_lead

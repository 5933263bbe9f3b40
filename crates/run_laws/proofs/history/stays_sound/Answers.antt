use Rattle.run_laws.proofs.HistoryLaws.{stays_sound}
use Rattle.run_laws.proofs.history.stays_sound.Goals as goal

pub returns : goal.returns
returns c = stays_sound

use Rattle.run_laws.proofs.HistoryLaws.{stays_sound}
use Rattle.run_laws.proofs.BackToMark.{back_to_mark}
use Rattle.run_laws.proofs.history.back_to_the_mark.Goals as goal

pub returns : goal.returns
returns c = back_to_mark stays_sound

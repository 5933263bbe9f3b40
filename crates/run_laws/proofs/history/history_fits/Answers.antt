use Rattle.run_laws.proofs.Throughout.{history_fits}
use Rattle.run_laws.proofs.history.history_fits.Goals as goal

pub returns : goal.returns
returns c = history_fits

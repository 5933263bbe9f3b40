use Rattle.run_laws.proofs.Fitting.{tiles_fit, tiles_fit_on_the_way}
use Rattle.run_laws.proofs.tiles_fit.Goals as goal

pub returns-clause-script : goal.returns-clause-script
returns-clause-script c = tiles_fit

pub returns-clause-on_the_way : goal.returns-clause-on_the_way
returns-clause-on_the_way c = tiles_fit_on_the_way

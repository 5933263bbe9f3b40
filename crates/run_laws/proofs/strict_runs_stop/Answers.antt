use Rattle.run_laws.proofs.LineLaws.{runs_stop, runs_are_alike}
use Rattle.run_laws.proofs.strict_runs_stop.Goals as goal

pub returns-clause-stop : goal.returns-clause-stop
returns-clause-stop c = runs_stop

pub returns-clause-alike : goal.returns-clause-alike
returns-clause-alike c = runs_are_alike

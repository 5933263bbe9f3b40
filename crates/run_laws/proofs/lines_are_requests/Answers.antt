use Rattle.run_laws.proofs.LineRequests.{lines_are_requests}
use Rattle.run_laws.proofs.lines_are_requests.Goals as goal

pub returns : goal.returns
returns c = lines_are_requests

use Rattle.run_laws.proofs.LineLaws.{looking_lines}
use Rattle.run_laws.proofs.looking_changes_nothing.Goals as goal

pub returns : goal.returns
returns c = looking_lines

use Rattle.run_laws.proofs.LineLaws.{refused_lines, silent_lines}
use Rattle.run_laws.proofs.refused_lines_change_nothing.Goals as goal

pub returns-clause-refused : goal.returns-clause-refused
returns-clause-refused c = refused_lines

pub returns-clause-silent : goal.returns-clause-silent
returns-clause-silent c = silent_lines

use Rattle.tile_lines.proofs.LineLaws.{lines_found, lines_only}
use Rattle.tile_lines.proofs.laws.lines_make_up_the_script.Goals as goal

pub returns-clause-found : goal.returns-clause-found
returns-clause-found c = lines_found

pub returns-clause-only : goal.returns-clause-only
returns-clause-only c = lines_only

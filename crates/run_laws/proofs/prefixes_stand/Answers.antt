use Rattle.tile_course.proofs.Prefixes.{first_lines, prefix_stands}
use Rattle.run_laws.proofs.LineLaws.{replies_stand}
use Rattle.run_laws.proofs.prefixes_stand.Goals as goal

pub returns-clause-lines : goal.returns-clause-lines
returns-clause-lines c = first_lines

pub returns-clause-progress : goal.returns-clause-progress
returns-clause-progress c = prefix_stands

pub returns-clause-replies : goal.returns-clause-replies
returns-clause-replies c = replies_stand

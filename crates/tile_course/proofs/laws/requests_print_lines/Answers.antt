use Rattle.tile_course.proofs.AnswerLaws.{requests_print_lines}
use Rattle.tile_course.proofs.laws.requests_print_lines.Goals as goal

pub returns : goal.returns
returns c = requests_print_lines

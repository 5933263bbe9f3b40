use Rattle.tile_course.proofs.AnswerLaws.{looks_leave_history}
use Rattle.tile_course.proofs.laws.looks_leave_history.Goals as goal

pub returns : goal.returns
returns c = looks_leave_history

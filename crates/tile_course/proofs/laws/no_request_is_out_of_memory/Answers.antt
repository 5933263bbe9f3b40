use Rattle.tile_course.proofs.AnswerLaws.{no_request_is_out_of_memory}
use Rattle.tile_course.proofs.laws.no_request_is_out_of_memory.Goals as goal

pub returns : goal.returns
returns c = no_request_is_out_of_memory

use Rattle.std.proofs.Common.{map}
use Rattle.tile_arguments.specs.RequestStands.{request_of}
use Rattle.tile_lines.specs.WordStands.{word_of}
use Rattle.tile_script.proofs.Alone.{alone_answered, other_answered}
use Rattle.tile_script.proofs.ParseRefusals.{never_alone}
use Rattle.tile_script.proofs.requests.other_request.Goals as goal

pub returns-in-Some-clause-answer : goal.returns-in-Some-clause-answer
returns-in-Some-clause-answer c = alone_answered c.alone.result c.args.name.now (map word_of c.args.arguments.now) (request_of c.in-Some.request) c.in-Some.ensures c.alone.ensures

pub returns-in-Some-clause-no_memory : goal.returns-in-Some-clause-no_memory
returns-in-Some-clause-no_memory c = λ memory. absurd (never_alone c.alone.result (request_of c.in-Some.request) (map word_of c.args.arguments.now) c.alone.ensures memory)

pub returns-in-None-clause-answer : goal.returns-in-None-clause-answer
returns-in-None-clause-answer c = other_answered c.list_or_edit.result c.args.name.now (map word_of c.args.arguments.now) c.in-None.ensures c.list_or_edit.ensures.answer

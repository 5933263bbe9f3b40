use Rattle.std.proofs.Common.{map}
use Rattle.tile_arguments.specs.RequestStands.{request_of}
use Rattle.tile_lines.specs.Answers.{Gives}
use Rattle.tile_lines.specs.WordStands.{word_of}
use Rattle.tile_script.specs.Line.{list_of}
use Rattle.tile_script.proofs.Refused.{of_one, of_two, first_refused}
use Rattle.tile_script.proofs.requests.list.Goals as goal

pub returns-in_err-layer_choice-in-len1-clause-answer : goal.returns-in_err-layer_choice-in-len1-clause-answer
unfolding list_of
returns-in_err-layer_choice-in-len1-clause-answer c =
    let answer = c.from_residual.result in
    of_one (λ words. Gives request_of answer (list_of (map word_of words))) c.args.arguments.now _ c.in-len1.len_at_least c.in-len1.len_below
    (first_refused request_of answer c.in_err-layer_choice-in-len1.field-0.0 _ _ c.from_residual.ensures.1 c.in_err-layer_choice-in-len1.ensures.answer)

pub returns-in_err-layer-in-len2-clause-answer : goal.returns-in_err-layer-in-len2-clause-answer
unfolding list_of
returns-in_err-layer-in-len2-clause-answer c =
    let answer = c.from_residual-in_err-layer-in-len2.result in
    of_two (λ words. Gives request_of answer (list_of (map word_of words))) c.args.arguments.now _ _ c.in-len2.len_at_least c.in-len2.len_below
    (first_refused request_of answer c.in_err-layer-in-len2.field-0.0 _ _ c.from_residual-in_err-layer-in-len2.ensures.1 c.in_err-layer-in-len2.ensures)

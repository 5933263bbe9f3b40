use Rattle.std.proofs.Common.{map}
use Rattle.mvt_meaning.specs.CommandStands.{command_of}
use Rattle.tile_lines.specs.Answers.{Gives}
use Rattle.tile_lines.specs.WordStands.{word_of}
use Rattle.tile_script.specs.Commands.{exclude_of}
use Rattle.tile_script.proofs.Refused.{of_two, of_two_first, first_refused, second_refused}
use Rattle.tile_script.proofs.commands.exclude.Goals as goal

pub returns-in_err-layers-clause-answer : goal.returns-in_err-layers-clause-answer
unfolding exclude_of
returns-in_err-layers-clause-answer c =
    let answer = c.from_residual.result in
    of_two_first (λ words. Gives command_of answer (exclude_of (map word_of words))) c.args.arguments.now _ c.in-len2.len_at_least c.in-len2.len_below
    (first_refused command_of answer c.in_err-layers.field-0.0 _ _ c.from_residual.ensures.1 c.in_err-layers.ensures.answer)

pub returns-in_err-key-clause-answer : goal.returns-in_err-key-clause-answer
unfolding exclude_of
returns-in_err-key-clause-answer c =
    let answer = c.from_residual-in_err-key.result in
    of_two (λ words. Gives command_of answer (exclude_of (map word_of words))) c.args.arguments.now _ _ c.in-len2.len_at_least c.in-len2.len_below
    (second_refused command_of answer c.in_err-key.field-0.0 _ _ _ _ c.from_residual-in_err-key.ensures.1 c.in_ok-layers.ensures.answer c.in_err-key.ensures.answer)

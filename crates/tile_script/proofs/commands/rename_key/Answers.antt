use Rattle.std.proofs.Common.{map}
use Rattle.mvt_meaning.specs.CommandStands.{command_of}
use Rattle.tile_lines.specs.Answers.{Gives}
use Rattle.tile_lines.specs.WordStands.{word_of}
use Rattle.tile_script.specs.Commands.{rename_key_of}
use Rattle.tile_script.proofs.Refused.{of_three, of_three_first, first_refused, second_refused}
use Rattle.tile_script.proofs.commands.rename_key.Goals as goal

pub returns-in_err-layer-clause-answer : goal.returns-in_err-layer-clause-answer
unfolding rename_key_of
returns-in_err-layer-clause-answer c =
    let answer = c.from_residual.result in
    of_three_first (λ words. Gives command_of answer (rename_key_of (map word_of words))) c.args.arguments.now _ c.in-len3.len_at_least c.in-len3.len_below
    (first_refused command_of answer c.in_err-layer.field-0.0 _ _ c.from_residual.ensures.1 c.in_err-layer.ensures.answer)

pub returns-in_err-old-clause-answer : goal.returns-in_err-old-clause-answer
unfolding rename_key_of
returns-in_err-old-clause-answer c =
    let answer = c.from_residual-in_err-old.result in
    of_three (λ words. Gives command_of answer (rename_key_of (map word_of words))) c.args.arguments.now _ _ _ c.in-len3.len_at_least c.in-len3.len_below
    (second_refused command_of answer c.in_err-old.field-0.0 _ _ _ _ c.from_residual-in_err-old.ensures.1 c.in_ok-layer.ensures.answer c.in_err-old.ensures)

use Rattle.std.proofs.Common.{map, sym, inr}
use Rattle.mvt_meaning.specs.CommandStands.{command_of}
use Rattle.tile_lines.specs.Answers.{Gives}
use Rattle.tile_lines.specs.WordStands.{word_of}
use Rattle.tile_script.specs.Commands.{move_feature_of}
use Rattle.tile_script.proofs.Refused.{of_three, of_three_two, first_refused, second_refused}
use Rattle.tile_script.proofs.commands.move_feature.Goals as goal

pub returns-in_err-layer-clause-answer : goal.returns-in_err-layer-clause-answer
unfolding move_feature_of
returns-in_err-layer-clause-answer c =
    let answer = c.from_residual.result in
    of_three_two (λ words. Gives command_of answer (move_feature_of (map word_of words))) c.args.arguments.now _ _ c.in-len3.len_at_least c.in-len3.len_below
    (first_refused command_of answer c.in_err-layer.field-0.0 _ _ c.from_residual.ensures.1 c.in_err-layer.ensures)

pub returns-in_err-index-clause-answer : goal.returns-in_err-index-clause-answer
unfolding move_feature_of
returns-in_err-index-clause-answer c =
    let answer = c.from_residual-in_err-index.result in
    of_three (λ words. Gives command_of answer (move_feature_of (map word_of words))) c.args.arguments.now _ _ _ c.in-len3.len_at_least c.in-len3.len_below
    (second_refused command_of answer c.in_err-index.field-0.0 _ _ _ _ c.from_residual-in_err-index.ensures.1 c.in_ok-layer.ensures (inr (sym c.in_err-index.ensures)))

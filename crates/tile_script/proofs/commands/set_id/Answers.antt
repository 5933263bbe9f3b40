use Rattle.std.proofs.Common.{map, sym, inr}
use Rattle.mvt_meaning.specs.CommandStands.{command_of}
use Rattle.tile_lines.specs.Answers.{Gives}
use Rattle.tile_lines.specs.WordStands.{word_of}
use Rattle.tile_script.specs.Commands.{set_id_of}
use Rattle.tile_script.proofs.Refused.{of_three, of_three_two, first_refused, second_refused}
use Rattle.tile_script.proofs.commands.set_id.Goals as goal

pub returns-in_err-layer-clause-answer : goal.returns-in_err-layer-clause-answer
unfolding set_id_of
returns-in_err-layer-clause-answer c =
    let answer = c.from_residual.result in
    of_three_two (λ words. Gives command_of answer (set_id_of (map word_of words))) c.args.arguments.now _ _ c.in-len3.len_at_least c.in-len3.len_below
    (first_refused command_of answer c.in_err-layer.field-0.0 _ _ c.from_residual.ensures.1 c.in_err-layer.ensures)

pub returns-in_err-id-clause-answer : goal.returns-in_err-id-clause-answer
unfolding set_id_of
returns-in_err-id-clause-answer c =
    let answer = c.from_residual-in_err-id.result in
    of_three (λ words. Gives command_of answer (set_id_of (map word_of words))) c.args.arguments.now _ _ _ c.in-len3.len_at_least c.in-len3.len_below
    (second_refused command_of answer c.in_err-id.field-0.0 _ _ _ _ c.from_residual-in_err-id.ensures.1 c.in_ok-layer.ensures (inr (sym c.in_err-id.ensures)))

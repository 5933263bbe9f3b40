use Rattle.std.proofs.Common.{map, sym, inr, rules, w64}
use mir.Val.{SFits}
use Rattle.std.proofs.lemmas.Int.{to_z-of_z}
use Rattle.mvt_meaning.specs.CommandStands.{command_of}
use Rattle.tile_lines.specs.Answers.{Gives}
use Rattle.tile_lines.specs.WordStands.{word_of}
use Rattle.tile_script.specs.Commands.{shift_of}
use Rattle.tile_script.proofs.Refused.{of_four, of_four_two, of_four_three, first_refused, second_refused, third_refused}
use Rattle.tile_script.proofs.ShiftRefusals.{along_and_down}
use Rattle.tile_script.proofs.commands.shift.Goals as goal

pub returns-in_err-layer-clause-answer : goal.returns-in_err-layer-clause-answer
unfolding shift_of
returns-in_err-layer-clause-answer c =
    let answer = c.from_residual.result in
    of_four_two (λ words. Gives command_of answer (shift_of (map word_of words))) c.args.arguments.now _ _ c.in-len4.len_at_least c.in-len4.len_below
    (first_refused command_of answer c.in_err-layer.field-0.0 _ _ c.from_residual.ensures.1 c.in_err-layer.ensures)

pub returns-in_err-dx-clause-answer : goal.returns-in_err-dx-clause-answer
unfolding shift_of
returns-in_err-dx-clause-answer c =
    let answer = c.from_residual-in_err-dx.result in
    of_four_three (λ words. Gives command_of answer (shift_of (map word_of words))) c.args.arguments.now _ _ _ c.in-len4.len_at_least c.in-len4.len_below
    (second_refused command_of answer c.in_err-dx.field-0.0 _ _ _ _ c.from_residual-in_err-dx.ensures.1 c.in_ok-layer.ensures (inr (sym c.in_err-dx.ensures)))

pub returns-in_err-dy-clause-answer : goal.returns-in_err-dy-clause-answer
unfolding shift_of
returns-in_err-dy-clause-answer c =
    let answer = c.from_residual-in_err-dy.result in
    of_four (λ words. Gives command_of answer (shift_of (map word_of words))) c.args.arguments.now _ _ _ _ c.in-len4.len_at_least c.in-len4.len_below
    (third_refused command_of answer c.in_err-dy.field-0.0 _ _ _ _ _ _ c.from_residual-in_err-dy.ensures.1 c.in_ok-layer.ensures (sym c.in_ok-dx.ensures) (inr (sym c.in_err-dy.ensures)))

pub returns-clause-answer : goal.returns-clause-answer
returns-clause-answer c =
    let words = c.args.arguments.now in
    let along : SFits w64 c.in_ok-dx.dx = search rules in
    let down : SFits w64 c.in_ok-dy.dy = search rules in
    simp to_z-of_z (along_and_down words _ _ _ _ _ _ _ c.in-len4.len_at_least c.in-len4.len_below c.in_ok-layer.ensures c.in_ok-dx.ensures c.in_ok-dy.ensures)

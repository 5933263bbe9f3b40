use Rattle.std.proofs.Common.{map, subst}
use Rattle.tile_arguments.specs.Arguments.{geometry_of}
use Rattle.mvt_meaning.specs.CommandStands.{command_of}
use Rattle.tile_lines.specs.Answers.{Gives, Refuses}
use Rattle.tile_lines.specs.WordStands.{word_of}
use Rattle.tile_script.specs.Commands.{set_geometry_of}
use Rattle.tile_script.proofs.Refused.{of_two_and_more, first_refused, second_refused}
use Rattle.tile_script.proofs.commands.set_geometry.Goals as goal

pub returns-in_err-layer-clause-answer : goal.returns-in_err-layer-clause-answer
unfolding set_geometry_of
returns-in_err-layer-clause-answer c =
    let answer = c.from_residual.result in
    of_two_and_more (λ words. Gives command_of answer (set_geometry_of (map word_of words))) c.args.arguments.now _ _ _ c.in-len2-up.len_at_least c.is_empty.ensures c.if-is_empty.false
    (λ _ _ _. first_refused command_of answer c.in_err-layer.field-0.0 _ _ c.from_residual.ensures.1 c.in_err-layer.ensures)

pub returns-in_err-geometry-clause-answer : goal.returns-in_err-geometry-clause-answer
unfolding set_geometry_of
returns-in_err-geometry-clause-answer c =
    let answer = c.from_residual-in_err-geometry.result in
    of_two_and_more (λ words. Gives command_of answer (set_geometry_of (map word_of words))) c.args.arguments.now _ _ _ c.in-len2-up.len_at_least c.is_empty.ensures c.if-is_empty.false
    (λ kind points is. second_refused command_of answer c.in_err-geometry.field-0.0 _ _ _ _ c.from_residual-in_err-geometry.ensures.1 c.in_ok-layer.ensures (subst (λ rest. Refuses c.in_err-geometry.field-0.0 (geometry_of (map word_of rest))) is c.in_err-geometry.ensures.answer))

use Rattle.std.proofs.Common.{map, sym, inr, subst}
use Rattle.tile_arguments.specs.Arguments.{geometry_of}
use Rattle.mvt_meaning.specs.CommandStands.{command_of}
use Rattle.tile_lines.specs.Answers.{Gives, Refuses}
use Rattle.tile_lines.specs.WordStands.{word_of}
use Rattle.tile_script.specs.Commands.{insert_feature_of}
use Rattle.tile_script.proofs.Refused.{of_first_and_more, of_two_and_more, first_refused, second_refused, third_refused}
use Rattle.tile_script.proofs.commands.insert_feature.Goals as goal

pub returns-in_err-layer-clause-answer : goal.returns-in_err-layer-clause-answer
unfolding insert_feature_of
returns-in_err-layer-clause-answer c =
    let answer = c.from_residual.result in
    of_first_and_more (λ words. Gives command_of answer (insert_feature_of (map word_of words))) c.args.arguments.now _ _ c.in-len2-up.len_at_least c.is_empty.ensures c.if-is_empty.false
    (λ _ _ _. first_refused command_of answer c.in_err-layer.field-0.0 _ _ c.from_residual.ensures.1 c.in_err-layer.ensures.answer)

pub returns-in_err-index-clause-answer : goal.returns-in_err-index-clause-answer
unfolding insert_feature_of
returns-in_err-index-clause-answer c =
    let answer = c.from_residual-in_err-index.result in
    of_two_and_more (λ words. Gives command_of answer (insert_feature_of (map word_of words))) c.args.arguments.now _ _ _ c.in-len2-up.len_at_least c.is_empty.ensures c.if-is_empty.false
    (λ _ _ _. second_refused command_of answer c.in_err-index.field-0.0 _ _ _ _ c.from_residual-in_err-index.ensures.1 c.in_ok-layer.ensures.answer (inr (sym c.in_err-index.ensures)))

pub returns-in_err-geometry-clause-answer : goal.returns-in_err-geometry-clause-answer
unfolding insert_feature_of
returns-in_err-geometry-clause-answer c =
    let answer = c.from_residual-in_err-geometry.result in
    of_two_and_more (λ words. Gives command_of answer (insert_feature_of (map word_of words))) c.args.arguments.now _ _ _ c.in-len2-up.len_at_least c.is_empty.ensures c.if-is_empty.false
    (λ kind points is. third_refused command_of answer c.in_err-geometry.field-0.0 _ _ _ _ _ _ c.from_residual-in_err-geometry.ensures.1 c.in_ok-layer.ensures.answer (sym c.in_ok-index.ensures) (subst (λ rest. Refuses c.in_err-geometry.field-0.0 (geometry_of (map word_of rest))) is c.in_err-geometry.ensures.answer))

use Rattle.std.proofs.Common.{◌∙◌, Err, ap, map, subst, sym}
use Rattle.std.proofs.lemmas.Result.{err_from_is_err_and}
use Rattle.mvt_meaning.specs.CommandStands.{command_of}
use Rattle.tile_lines.specs.Answers.{Gives}
use Rattle.tile_lines.specs.WordStands.{word_of}
use Rattle.tile_script.specs.Commands.{set_of}
use Rattle.tile_script.proofs.SetRefusals.{key_refused, place_refused, value_refused}
use Rattle.tile_script.proofs.commands.set.Goals as goal

pub returns-in_err-layer-clause-answer : goal.returns-in_err-layer-clause-answer
returns-in_err-layer-clause-answer c =
    let words = c.args.arguments.now in
    let p = err_from_is_err_and c.from_residual.result c.from_residual.ensures.1 in
    subst (λ answer. Gives command_of answer (set_of (map word_of words))) (sym (p.1 ∙ ap Err p.2))
    (place_refused words _ _ c.in_err-layer.field-0.0 c.in-len5.len_at_least c.in-len5.len_below c.in_err-layer.ensures)

pub returns-in_err-key-clause-answer : goal.returns-in_err-key-clause-answer
returns-in_err-key-clause-answer c =
    let words = c.args.arguments.now in
    let p = err_from_is_err_and c.from_residual-in_err-key.result c.from_residual-in_err-key.ensures.1 in
    subst (λ answer. Gives command_of answer (set_of (map word_of words))) (sym (p.1 ∙ ap Err p.2))
    (key_refused words _ _ _ _ c.in_err-key.field-0.0 c.in-len5.len_at_least c.in-len5.len_below c.in_ok-layer.ensures c.in_err-key.ensures.answer)

pub returns-in_err-value-clause-answer : goal.returns-in_err-value-clause-answer
returns-in_err-value-clause-answer c =
    let words = c.args.arguments.now in
    let p = err_from_is_err_and c.from_residual-in_err-value.result c.from_residual-in_err-value.ensures.1 in
    subst (λ answer. Gives command_of answer (set_of (map word_of words))) (sym (p.1 ∙ ap Err p.2))
    (value_refused words _ _ _ _ _ _ _ c.in_err-value.field-0.0 c.in-len5.len_at_least c.in-len5.len_below c.in_ok-layer.ensures c.in_ok-key.ensures.answer c.in_err-value.ensures.answer)

use Rattle.tile_script.specs.Commands.{two_texts_of}
use Rattle.tile_script.proofs.Refused.{first_refused, second_refused}
use Rattle.tile_script.proofs.commands.two_texts.Goals as goal

pub returns-in_err-first : goal.returns-in_err-first
unfolding two_texts_of
returns-in_err-first c = first_refused (λ texts. (texts.0.items, texts.1.items)) c.from_residual.result c.in_err-first.field-0.0 _ _ c.from_residual.ensures.1 c.in_err-first.ensures.answer

pub returns-in_err-second : goal.returns-in_err-second
unfolding two_texts_of
returns-in_err-second c = second_refused (λ texts. (texts.0.items, texts.1.items)) c.from_residual-in_err-second.result c.in_err-second.field-0.0 _ _ _ _ c.from_residual-in_err-second.ensures.1 c.in_ok-first.ensures.answer c.in_err-second.ensures.answer

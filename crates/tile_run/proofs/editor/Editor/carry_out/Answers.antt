use Rattle.std.proofs.Common.{◌∙◌, ◌+◌, ℕ, ap, sym, refl}
use Rattle.tile_course.specs.Replies.{answer_seen}
use Rattle.tile_run.proofs.Running.{advances_silently, settles, falters}
use Rattle.tile_run.proofs.editor.Editor.carry_out.Goals as goal

pub returns-in_default-clause-answers : goal.returns-in_default-clause-answers
returns-in_default-clause-answers g c script strict p line at on is =
    advances_silently _ strict p line _ _ on (c.in_default.ensures p line at.stands is) refl at.strict (ap (λ (n : ℕ). n + 1) at.lines) at.refused

pub returns-then-is_err-clause-answers : goal.returns-then-is_err-clause-answers
returns-then-is_err-clause-answers g c script strict p line at on is =
    falters _ _ p line _ c.in-Some.answer (answer_seen c.printed_in.result) _ c.reply.result (c.in-Some.ensures p line at.stands is) (ap (λ (n : ℕ). n + 1) (sym at.lines))
    (sym c.is_err.ensures.value ∙ c.if-is_err.true) c.printed_in.ensures c.reply.ensures

pub returns-clause-answers : goal.returns-clause-answers
returns-clause-answers g c script strict p line at on is =
    settles _ _ strict p line _ c.in-Some.answer (answer_seen c.printed_in.result) _ _ _ c.reply.result _ _ on (c.in-Some.ensures p line at.stands is)
    refl at.strict refl (ap (λ (n : ℕ). n + 1) (sym at.lines)) at.refused c.is_err-refused.ensures.value c.settle.ensures.editor c.settle.ensures.ends
    (sym c.is_err.ensures.value ∙ c.if-is_err.false) c.printed_in.ensures c.reply.ensures

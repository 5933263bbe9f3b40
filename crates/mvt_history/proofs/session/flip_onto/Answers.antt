use Rattle.std.proofs.Common.{[], ◌∷◌, ◌++◌, ap, ◌∙◌}
use Rattle.mvt_history_steps.specs.Held.{from_last}
use Rattle.mvt_history_steps.proofs.Stepping.{from_last_push}
use Rattle.mvt_history.proofs.session.flip_onto.Goals as goal

pub returns-clause-ok : goal.returns-clause-ok
returns-clause-ok c =
    let before = c.args.changes.now.items in
    let pushed = c.push_reserved.ensures.items ∙ ap (λ items. items ++ c.in_ok-flipped.field-0 ∷ []) c.reserve.ensures.items in
    ap from_last pushed ∙ from_last_push before c.in_ok-flipped.field-0 ∙ ap (λ change. change ∷ from_last before) c.in_ok-flipped.ensures.back

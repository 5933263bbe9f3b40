use Rattle.std.proofs.Common.{ap, ◌∙◌}
use Rattle.mvt_splices.proofs.gap.Gap.close.Goals as goal

pub returns-clause-items : goal.returns-clause-items
returns-clause-items g c =
    ap (λ list. list.items) c.replace.ensures.after ∙ c.into_vec.ensures.items ∙ c.rotate_left.ensures.items ∙ ap (λ held. held.items) c.self.view_is

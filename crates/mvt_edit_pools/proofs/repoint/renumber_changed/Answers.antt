use Rattle.mvt_edit_pools.proofs.repoint.renumber_changed.Goals as goal

pub returns-in_ok-renumber_feature-clause-some : goal.returns-in_ok-renumber_feature-clause-some
returns-in_ok-renumber_feature-clause-some c = λ some. c.in_ok-renumber_feature.ensures.steps

use Rattle.std.proofs.Common.{◌^◌, take, ap, ◌∙◌}
use Rattle.mvt_edit_pools.specs.Marks.{numbered_from}
use Rattle.mvt_edit_pools.proofs.compact.new_ordinals.Goals as goal

pub returns-clause-keys : goal.returns-clause-keys
returns-clause-keys c = c.in_ok-keys.ensures ∙ ap (numbered_from 0) (c.nameable.ensures.first ∙ ap (take (2 ^ 32)) c.as_slice.ensures.value)

pub returns-clause-values : goal.returns-clause-values
returns-clause-values c = c.in_ok-values.ensures ∙ ap (numbered_from 0) (c.nameable-2.ensures.first ∙ ap (take (2 ^ 32)) c.as_slice-2.ensures.value)

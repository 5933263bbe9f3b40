use Rattle.std.proofs.Common.{◌^◌, take, ap, ◌∙◌}
use Rattle.mvt_edit_pools.proofs.Numbering.{first_named}
use Rattle.mvt_edit_pools.proofs.used.nameable.Goals as goal

pub returns-clause-first : goal.returns-clause-first
returns-clause-first c = ap (λ n. take n c.args.marks.now) c.min.ensures ∙ first_named c.args.marks.now (2 ^ 32)

use Rattle.std.proofs.Common.{◌≡◌, [], sym}
use Rattle.std.proofs.lemmas.List.{nil_from_length}
use Rattle.mvt_renumber.proofs.Decisions.{none_changed}
use Rattle.mvt_renumber.proofs.renumber.first_fate.Goals as goal

pub returns-in_default-clause-changes : goal.returns-in_default-clause-changes
returns-in_default-clause-changes c = λ more.
    let none : c.args.decisions.now ≡ [] = nil_from_length c.args.decisions.now c.in_default.ensures.cases in
    rw none (sym (none_changed more))

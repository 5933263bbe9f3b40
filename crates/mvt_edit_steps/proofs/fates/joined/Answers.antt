use Rattle.std.proofs.Common.{◌+◌, [], ◌∷◌, refl, arith}
use Rattle.mvt_edit_steps.specs.Fates.{splices_from}
use Rattle.mvt_edit_steps.proofs.Following.{run_whole}
use Rattle.mvt_edit_steps.proofs.Joining.{becomes_more, goes_more, one_more_ends, one_more_runs, one_more_take}
use Rattle.mvt_edit_steps.proofs.fates.joined.Goals as goal

pub returns-in-Stays-clause-runs : goal.returns-in-Stays-clause-runs
returns-in-Stays-clause-runs g c = λ rest. rw c.in-Stays.is (run_whole c.args.last c.args.at rest c.requires.ends)

pub returns-in-Stays-clause-ends : goal.returns-in-Stays-clause-ends
returns-in-Stays-clause-ends g c = tt

pub returns-in-Stays-clause-take : goal.returns-in-Stays-clause-take
returns-in-Stays-clause-take g c = λ most few. tt

pub returns-in-Goes-clause-runs : goal.returns-in-Goes-clause-runs
returns-in-Goes-clause-runs g c = λ rest.
    let is = c.one_more.ensures in
    rw c.in-Goes.is (one_more_runs c.args.last c.args.at [] c.one_more.result (splices_from c.args.at rest) c.requires.ends (goes_more _ _ _ is.index is.take is.put))

pub returns-in-Goes-clause-ends : goal.returns-in-Goes-clause-ends
returns-in-Goes-clause-ends g c =
    let is = c.one_more.ensures in
    one_more_ends c.args.last c.args.at _ [] c.one_more.result c.requires.ends (goes_more _ _ _ is.index is.take is.put) (omega arith)

pub returns-in-Goes-clause-take : goal.returns-in-Goes-clause-take
returns-in-Goes-clause-take g c =
    let is = c.one_more.ensures in
    one_more_take c.args.last c.args.at [] c.one_more.result (goes_more _ _ _ is.index is.take is.put)

pub returns-in_ok-put_after-in-Becomes-clause-runs : goal.returns-in_ok-put_after-in-Becomes-clause-runs
returns-in_ok-put_after-in-Becomes-clause-runs g c = λ rest.
    let is = c.one_more-run.ensures in
    let item = c.in-Becomes.item in
    rw c.in-Becomes.is (one_more_runs c.args.last c.args.at (item ∷ []) (record { index = c.one_more-run.result.index; take = c.one_more-run.result.take; put = c.put_after.new.put }) (splices_from (c.args.at + 1) rest) c.requires.ends
    (becomes_more _ _ c.one_more-run.result _ item is.index is.take is.put refl refl c.in_ok-put_after-in-Becomes.ensures))

pub returns-in_ok-put_after-in-Becomes-clause-ends : goal.returns-in_ok-put_after-in-Becomes-clause-ends
returns-in_ok-put_after-in-Becomes-clause-ends g c =
    let is = c.one_more-run.ensures in
    let item = c.in-Becomes.item in
    one_more_ends c.args.last c.args.at (c.args.at + 1) (item ∷ []) (record { index = c.one_more-run.result.index; take = c.one_more-run.result.take; put = c.put_after.new.put }) c.requires.ends
    (becomes_more _ _ c.one_more-run.result _ item is.index is.take is.put refl refl c.in_ok-put_after-in-Becomes.ensures) refl

pub returns-in_ok-put_after-in-Becomes-clause-take : goal.returns-in_ok-put_after-in-Becomes-clause-take
returns-in_ok-put_after-in-Becomes-clause-take g c =
    let is = c.one_more-run.ensures in
    one_more_take c.args.last c.args.at (c.in-Becomes.item ∷ []) (record { index = c.one_more-run.result.index; take = c.one_more-run.result.take; put = c.put_after.new.put })
    (becomes_more _ _ c.one_more-run.result _ c.in-Becomes.item is.index is.take is.put refl refl c.in_ok-put_after-in-Becomes.ensures)

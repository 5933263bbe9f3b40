use Rattle.std.proofs.Common.{◌+◌}
use Rattle.mvt_edit_steps.proofs.Following.{passed}
use Rattle.mvt_edit_steps.proofs.fates.Walk.pass.Goals as goal

pub returns-clause-steps : goal.returns-clause-steps
returns-clause-steps g c = λ step_with means rest. passed step_with _ _ c.in_ok-whole.whole c.args.self (record { last = c.in_ok-whole.open; at = c.in_ok-whole.next; changed = c.args.self.changed + c.changes-more.result }) c.args.fate rest (c.in_ok-whole.ensures.runs rest) (c.in_ok-put_step.ensures step_with means)

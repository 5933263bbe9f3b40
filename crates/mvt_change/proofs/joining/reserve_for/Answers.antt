use Rattle.std.proofs.Common.{◌≡◌, Some, ap, ◌∙◌, arith}
use Rattle.std.specs.Result.{result_ok}
use Rattle.mvt_change.proofs.JoinedChanges.{length_joined_next}
use Rattle.mvt_change.proofs.joining.reserve_for.Goals as goal

pub loop-other-preserved : goal.loop-other-preserved
loop-other-preserved c =
    let next = length_joined_next c.args.others.now c.loop-other.other-index c.other-item.result c.loop-other-test.true c.other-item.is in
    let sum : c.checked_add.result ≡ Some c.in_ok-count.count = c.ok_or.ensures.ok_part ∙ ap result_ok c.in_ok-count.was in
    let added = rw sum at c.checked_add.ensures in
    omega (arith, next, c.loop-other.invariant, added, c.len.ensures)

use Rattle.mvt_change.specs.ChangeStands.{change_of}
use Rattle.mvt_meaning.specs.CommandStands.{command_of}
use Rattle.test_fixtures.proofs.Ready.{followed}
use Rattle.test_fixtures.proofs.series.Series.on.Goals as goal

pub invariant_of-result : goal.invariant_of-result
invariant_of-result c =
    let next = c.in_ok-next.ensures in
    let carried = c.in_ok-carried.ensures in
    let whole = followed (command_of c.args.command.now) _ (change_of c.in_ok-next.next) (change_of c.in_ok-carried.carried) c.self.invariant next.fits next.means carried.means in
    rw (c.in_ok-flip.ensures.document, c.in_ok-joined.ensures) whole

use Rattle.mvt_wire.proofs.GroupSteps.{in_group-more, in_group-end, in_group-broken}
use Rattle.mvt_wire.proofs.groups.group_at_front.Goals as goal

pub returns-in_err-place-clause-none : goal.returns-in_err-place-clause-none
returns-in_err-place-clause-none c =
    rw c.from_residual.ensures (in_group-broken c.args.number c.args.bytes.now c.loop-groups.groups c.loop-groups.place c.loop-groups.invariant c.in_err-place.ensures.none)

pub loop-groups-preserved : goal.loop-groups-preserved
loop-groups-preserved c =
    in_group-more c.args.number c.args.bytes.now c.loop-groups.groups c.next_in_group.new.groups c.loop-groups.place c.in_ok-place.field-0 c.loop-groups.invariant c.in_ok-place.ensures.within c.in_ok-place.ensures.leads

pub returns-clause-group : goal.returns-clause-group
returns-clause-group c =
    in_group-end c.args.number c.args.bytes.now c.loop-groups.groups c.loop-groups.place c.loop-groups.invariant (c.is_empty.ensures.0 c.loop-groups-test.false)

use Rattle.std.proofs.Common.{Some, None}
use Rattle.mvt_change.proofs.Visits.{item_read, item_here, item_elsewhere}
use Rattle.mvt_change.proofs.features.item_of_step.Goals as goal

pub returns-in-InFeature : goal.returns-in-InFeature
returns-in-InFeature c =
    let step = c.in_ok-other.field-0.now in
    let other = c.in-InFeature in
    let here = item_here c.args.layer other.other other.item other.index other.take other.put step other.is c.if-other-layer.true in
    item_read c.args.layer c.args.steps.now c.args.at step (Some other.item) c.in_ok-other.ensures.lookup.0 c.in_ok-other.ensures.lookup.1 here

pub returns-in_default : goal.returns-in_default
returns-in_default c =
    let step = c.in_ok-other.field-0.now in
    let other = c.in-InFeature in
    let elsewhere = item_elsewhere c.args.layer other.other other.item other.index other.take other.put step other.is c.if-other-layer.false in
    item_read c.args.layer c.args.steps.now c.args.at step None c.in_ok-other.ensures.lookup.0 c.in_ok-other.ensures.lookup.1 elsewhere

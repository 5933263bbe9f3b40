use Rattle.std.proofs.Common.{◌-◌, arith}
use Rattle.std.proofs.lemmas.List.{length-set}
use Rattle.mvt_change.proofs.Actions.{room_finds}
use Rattle.mvt_change.proofs.TurnedRuns.{ok_then}
use Rattle.mvt_change.proofs.Underway.{next_has_room, takes_on_at}
use Rattle.mvt_change.proofs.taking_back.take_back.Goals as goal

pub flip_step-requires : goal.flip_step-requires
flip_step-requires c =
    room_finds _ c.loop-at.document (next_has_room _ _ c.loop-at.steps c.loop-at.at (c.loop-at.at - 1) c.index-steps-at.result c.loop-at.document (omega arith) (omega arith) c.loop-at.invariant.takes)

pub unwrap-requires : goal.unwrap-requires
unwrap-requires c =
    c.flip_step.ensures.succeeds (next_has_room _ _ c.loop-at.steps c.loop-at.at (c.loop-at.at - 1) c.index-steps-at.result c.loop-at.document (omega arith) (omega arith) c.loop-at.invariant.takes)

pub loop-at-preserved : goal.loop-at-preserved
loop-at-preserved c =
    let at = c.loop-at.at in
    let steps = c.loop-at.steps in
    let turned = c.flip_step.new.step in
    let takes = c.loop-at.invariant.takes in
    let done = c.flip_step.ensures.succeeds (next_has_room _ _ steps at (at - 1) c.index-steps-at.result c.loop-at.document (omega arith) (omega arith) takes) in
    record {
      there = omega (arith, length-set steps (at - 1) turned);
      takes = takes_on_at _ _ steps at (at - 1) c.index-steps-at.result c.loop-at.document (omega arith) (omega arith) takes turned c.flip_step.new.document
          (rw done at c.flip_step.ensures.kept) (ok_then c.flip_step.result _ c.flip_step.ensures.turned done);
    }

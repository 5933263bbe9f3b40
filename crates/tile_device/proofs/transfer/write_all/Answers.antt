use Rattle.std.proofs.Common.{rules, refl, sym, None}
use Rattle.std.proofs.lemmas.Bool.{eqb-true}
use Rattle.std.proofs.lemmas.List.{take_rest}
use Rattle.std.proofs.lemmas.Result.{err_from_is_err_and}
use Rattle.tile_device.specs.Seen.{sink_at}
use Rattle.tile_device.proofs.Meeting.{meets_call}
use Rattle.tile_device.proofs.Writing.{on_err, leaves_all, leaves_none, leaves_less, leaves_again, leaves_stopped, wrote_prefix}
use Rattle.tile_device.proofs.transfer.write_all.Goals as goal

pub loop-rest-preserved-in-Ok : goal.loop-rest-preserved-in-Ok
loop-rest-preserved-in-Ok g c =
    let before = sink_at g.S.Sink c.loop-rest.sink in
    let after = sink_at g.S.Sink c.write.new.self in
    let e = c.in-Ok.ensures in
    leaves_less _ before after _ _ _ _ _ c.in-Ok.count c.loop-rest.invariant
    (meets_call before after 0 None refl e.interruptions e.failures e.still_tells) e.bytes (take_rest c.loop-rest.rest.now c.in-Ok.count)

pub returns-in_err-take_for-in-Err-clause-prefix : goal.returns-in_err-take_for-in-Err-clause-prefix
returns-in_err-take_for-in-Err-clause-prefix g c =
    λ told. on_err _ (wrote_prefix _ (sink_at g.S.Sink c.loop-rest.sink) (sink_at g.S.Sink c.write.new.self) _ _ _ _ c.loop-rest.invariant (search rules)
    c.in-Err.ensures.still_tells c.in-Err.ensures.bytes told)

pub loop-rest-init : goal.loop-rest-init
loop-rest-init g c = leaves_all _ _ _

pub loop-rest-preserved : goal.loop-rest-preserved
loop-rest-preserved g c =
    let e = c.in-Err.ensures in
    let taken = c.in_ok-take_for-in-Err.ensures in
    leaves_again _ (sink_at g.S.Sink c.loop-rest.sink) (sink_at g.S.Sink c.write.new.self) _ _ _ _ _ c.in-Err.trouble c.loop-rest.invariant
    (taken.taken.0 refl).0 taken.ok e.interruptions e.failures e.still_tells e.bytes

pub returns-in_err-take_for-in-Err-clause-sends : goal.returns-in_err-take_for-in-Err-clause-sends
returns-in_err-take_for-in-Err-clause-sends g c =
    let e = c.in-Err.ensures in
    let refused = c.in_err-take_for-in-Err.ensures in
    let p = err_from_is_err_and c.from_residual.result c.from_residual.ensures.1 in
    leaves_stopped _ (sink_at g.S.Sink c.loop-rest.sink) (sink_at g.S.Sink c.write.new.self) _ _ _ _ _ c.in-Err.trouble c.from_residual.result c.loop-rest.invariant
    (cc (p.1, p.2, refused.err)) refused.kept refused.taken.1 e.interruptions e.failures e.still_tells e.bytes

pub returns-clause-sends : goal.returns-clause-sends
returns-clause-sends g c = leaves_none _ _ _ _ _ c.loop-rest.rest.now c.loop-rest.invariant (eqb-true _ 0 (sym c.loop-rest-test.ensures))

use Rattle.std.proofs.Common.{refl}
use Rattle.std.proofs.lemmas.Result.{err_from_is_err_and}
use Rattle.tile_device.specs.Seen.{source_at}
use Rattle.tile_device.proofs.Supplying.{reads_nothing, reads_again, reads_stopped, reads_through}
use Rattle.tile_device.proofs.transfer.read_some.Goals as goal

pub loop-count-init : goal.loop-count-init
loop-count-init g c = reads_nothing _ _ _ refl

pub returns-in-Ok-clause-reads : goal.returns-in-Ok-clause-reads
returns-in-Ok-clause-reads g c =
    let e = c.in-Ok.ensures in
    reads_through _ (source_at g.S.Source c.loop-count.source) (source_at g.S.Source c.read.new.self) _ _ c.in-Ok.count c.read.new.buffer c.loop-count.invariant
    e.interruptions e.failures e.still_tells e.bytes

pub loop-count-preserved : goal.loop-count-preserved
loop-count-preserved g c =
    let e = c.in-Err.ensures in
    let taken = c.in_ok-take_for-in-Err.ensures in
    reads_again _ (source_at g.S.Source c.loop-count.source) (source_at g.S.Source c.read.new.self) _ _ _ c.in-Err.trouble c.loop-count.invariant
    (taken.taken.0 refl).0 taken.ok e.interruptions e.failures e.still_tells e.bytes

pub returns-in_err-take_for-in-Err-clause-reads : goal.returns-in_err-take_for-in-Err-clause-reads
returns-in_err-take_for-in-Err-clause-reads g c =
    let e = c.in-Err.ensures in
    let refused = c.in_err-take_for-in-Err.ensures in
    let p = err_from_is_err_and c.from_residual.result c.from_residual.ensures.1 in
    reads_stopped _ (source_at g.S.Source c.loop-count.source) (source_at g.S.Source c.read.new.self) _ _ _ c.read.new.buffer c.in-Err.trouble c.from_residual.result c.loop-count.invariant
    (cc (p.1, p.2, refused.err)) refused.kept refused.taken.1 e.interruptions e.failures e.still_tells e.bytes

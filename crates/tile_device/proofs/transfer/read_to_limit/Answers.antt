use Rattle.std.proofs.Common.{◌∙◌, ap, rules, Err}
use Rattle.std.specs.Prelude.{is_ok}
use Rattle.std.proofs.lemmas.Result.{err_from_is_err_and}
use Rattle.tile_device.specs.Seen.{source_at}
use Rattle.tile_device.proofs.Supplying.{reads_nothing, all_room, taken_in, less_room, reading_goes_on, within_limit, below_limit, reading_stopped, reading_ended, reading_refused, reading_full}
use Rattle.tile_device.proofs.transfer.read_to_limit.Goals as goal

pub returns-in_err-count : goal.returns-in_err-count
returns-in_err-count g c =
    let p = err_from_is_err_and c.from_residual-in_err-count.result c.from_residual-in_err-count.ensures.1 in
    reading_stopped _ (source_at g.S.Source c.loop-room.source) (source_at g.S.Source c.read_some.new.source) _ _ _ _ _ _ c.from_residual-in_err-count.result
    c.loop-room.invariant.reads c.in_err-count.ensures.reads (within_limit _ _ _ c.loop-room.invariant.limit) (p.1 ∙ ap Err p.2)

pub returns-then-count-eq0 : goal.returns-then-count-eq0
returns-then-count-eq0 g c =
    reading_ended _ (source_at g.S.Source c.loop-room.source) _ _ _ _ _ _ _ _ _ c.loop-room.invariant.reads
    c.in_ok-count.ensures.reads c.if-count-eq0.true (search rules) (below_limit _ _ _ c.loop-room.invariant.limit c.loop-room-test.true) c.reserve.ensures.items

pub loop-room-init : goal.loop-room-init
loop-room-init g c = record { limit = all_room _ _ c.new-bytes.ensures.items; reads = reads_nothing _ _ _ c.new-bytes.ensures.items }

pub loop-room-preserved : goal.loop-room-preserved
loop-room-preserved g c =
    let bytes = c.loop-room.bytes.items in
    let buffer = c.read_some.new.buffer in
    let read = c.in_ok-count.ensures in
    let now = taken_in bytes _ _ buffer _ c.in_ok-count.count _ c.extend_from_slice.ensures.items (ap is_ok c.unwrap.ensures) c.reserve.ensures.items read.within in
    record {
      limit = less_room bytes buffer c.loop-room.piece _ _ c.loop-room.room c.min-size.result _ now read.within c.read_some.auto.buffer c.min-size.ensures c.loop-room.invariant.limit;
      reads = reading_goes_on _ (source_at g.S.Source c.loop-room.source) (source_at g.S.Source c.read_some.new.source) _ _ _ c.in_ok-count.count bytes buffer _ c.loop-room.invariant.reads read.reads c.if-count-eq0.false now;
    }

pub returns-in_err-reserve : goal.returns-in_err-reserve
returns-in_err-reserve g c =
    let p = err_from_is_err_and c.from_residual.result c.from_residual.ensures.1 in
    reading_refused _ _ _ _ _ _ _ c.from_residual.result c.loop-room.invariant.reads c.loop-room.invariant.limit (p.1 ∙ ap Err p.2)

pub returns : goal.returns
returns g c = reading_full _ _ _ _ _ _ c.loop-room.bytes c.loop-room.invariant.reads c.loop-room.invariant.limit c.loop-room-test.false

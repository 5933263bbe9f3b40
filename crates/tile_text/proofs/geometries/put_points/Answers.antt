use Rattle.std.proofs.Common.{◌∙◌, arith}
use Rattle.tile_text.specs.Extends.{Extends}
use Rattle.tile_text.proofs.Writing.{extends_more, one_more_point, points_begun, point_begun, on_err}
use Rattle.tile_text.proofs.geometries.put_points.Goals as goal

pub returns-in_err-put_point-clause-kept : goal.returns-in_err-put_point-clause-kept
returns-in_err-put_point-clause-kept c =
    let pushed : Extends c.loop-point.line.items c.push.new.self.items = record { added = _; whole = c.in_ok-push.ensures.items } in
    extends_more _ _ _ c.loop-point.invariant.kept (extends_more _ _ _ pushed c.in_err-put_point.ensures.kept)

pub loop-point-preserved : goal.loop-point-preserved
loop-point-preserved c =
    let pushed : Extends c.loop-point.line.items c.push.new.self.items = record { added = _; whole = c.in_ok-push.ensures.items } in
    record {
      kept = extends_more _ _ _ c.loop-point.invariant.kept (extends_more _ _ _ pushed c.in_ok-put_point.ensures.kept);
      so_far = one_more_point _ _ _ _ c.args.points.now c.loop-point.point-index _ (omega arith) c.loop-point.invariant.so_far c.in_ok-push.ensures.items c.in_ok-put_point.ensures.ok;
    }

pub returns-in_err-push-clause-err : goal.returns-in_err-push-clause-err
returns-in_err-push-clause-err c =
    on_err c.from_residual.result
    (points_begun c.args.line.now.items _ c.args.points.now c.loop-point.point-index (c.in_err-push.ensures.items ∙ c.loop-point.invariant.so_far))

pub returns-in_err-put_point-clause-err : goal.returns-in_err-put_point-clause-err
returns-in_err-put_point-clause-err c =
    on_err c.from_residual-in_err-put_point.result
    (point_begun _ _ _ _ c.args.points.now c.loop-point.point-index _ (omega arith) c.loop-point.invariant.so_far c.in_ok-push.ensures.items c.in_err-put_point.ensures.err)

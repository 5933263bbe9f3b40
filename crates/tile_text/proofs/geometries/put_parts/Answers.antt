use Rattle.std.proofs.lemmas.Result.{on_ok_weaker, on_err_weaker}
use Rattle.tile_text.proofs.Writing.{parts_written, first_part_begun, others_begun, on_err}
use Rattle.tile_text.proofs.geometries.put_parts.Goals as goal

pub returns-in_ok-put_points-in-len1-up-clause-ok : goal.returns-in_ok-put_points-in-len1-up-clause-ok
returns-in_ok-put_points-in-len1-up-clause-ok c =
    on_ok_weaker c.put_other_parts.result
    (parts_written c.args.line.now.items c.put_points.new.line.items _ c.args.parts.now c.first-item.result c.as_slice.result.now c.in-len1-up.len_at_least c.first-item.is c.as_slice.ensures c.in_ok-put_points-in-len1-up.ensures.ok)
    c.put_other_parts.ensures.ok

pub returns-in_err-put_points-in-len1-up-clause-err : goal.returns-in_err-put_points-in-len1-up-clause-err
returns-in_err-put_points-in-len1-up-clause-err c =
    on_err c.from_residual.result
    (first_part_begun c.args.line.now.items c.put_points.new.line.items c.put_points.new.line.items c.args.parts.now c.first-item.result c.as_slice.result.now c.in-len1-up.len_at_least c.first-item.is c.as_slice.ensures c.in_err-put_points-in-len1-up.ensures.err)

pub returns-in_ok-put_points-in-len1-up-clause-err : goal.returns-in_ok-put_points-in-len1-up-clause-err
returns-in_ok-put_points-in-len1-up-clause-err c =
    on_err_weaker c.put_other_parts.result
    (others_begun c.args.line.now.items c.put_points.new.line.items _ c.args.parts.now c.first-item.result c.as_slice.result.now c.in-len1-up.len_at_least c.first-item.is c.as_slice.ensures c.in_ok-put_points-in-len1-up.ensures.ok)
    c.put_other_parts.ensures.err

use Rattle.std.proofs.Common.{◌∙◌, rules, w64}
use mir.Val.{SFits}
use Rattle.std.proofs.lemmas.Int.{to_z-of_z}
use Rattle.std.proofs.lemmas.Result.{on_ok_weaker, on_err_weaker}
use Rattle.tile_text.specs.Extends.{Extends}
use Rattle.tile_text.proofs.Writing.{extends_more, on_err, x_begun, x_written, point_begins, point_written}
use Rattle.tile_text.proofs.geometries.put_point.Goals as goal

pub returns-in_err-put_signed_decimal-clause-err : goal.returns-in_err-put_signed_decimal-clause-err
returns-in_err-put_signed_decimal-clause-err c =
    let x : SFits w64 c.args.point.x = search rules in
    on_err c.from_residual.result (x_begun c.args.line.now.items c.put_signed_decimal.new.line.items c.args.point (simp to_z-of_z at c.in_err-put_signed_decimal.ensures.err))

pub returns-in_err-push-clause-err : goal.returns-in_err-push-clause-err
returns-in_err-push-clause-err c =
    let x : SFits w64 c.args.point.x = search rules in
    on_err c.from_residual-in_err-push.result (x_written c.args.line.now.items c.push.new.self.items c.args.point (simp to_z-of_z at (c.in_err-push.ensures.items ∙ c.in_ok-put_signed_decimal.ensures.ok)))

pub returns-clause-ok : goal.returns-clause-ok
returns-clause-ok c =
    let x : SFits w64 c.args.point.x = search rules in
    let y : SFits w64 c.args.point.y = search rules in
    on_ok_weaker c.put_signed_decimal-2.result
    (point_written c.args.line.now.items _ _ _ c.args.point (simp to_z-of_z at c.in_ok-put_signed_decimal.ensures.ok) c.in_ok-push.ensures.items)
    (simp to_z-of_z at c.put_signed_decimal-2.ensures.ok)

pub returns-clause-kept : goal.returns-clause-kept
returns-clause-kept c =
    let pushed : Extends c.put_signed_decimal.new.line.items c.push.new.self.items = record { added = _; whole = c.in_ok-push.ensures.items } in
    extends_more _ _ _ c.in_ok-put_signed_decimal.ensures.kept (extends_more _ _ _ pushed c.put_signed_decimal-2.ensures.kept)

pub returns-clause-err : goal.returns-clause-err
returns-clause-err c =
    let x : SFits w64 c.args.point.x = search rules in
    let y : SFits w64 c.args.point.y = search rules in
    on_err_weaker c.put_signed_decimal-2.result
    (point_begins c.args.line.now.items _ _ _ c.args.point (simp to_z-of_z at c.in_ok-put_signed_decimal.ensures.ok) c.in_ok-push.ensures.items)
    (simp to_z-of_z at c.put_signed_decimal-2.ensures.err)

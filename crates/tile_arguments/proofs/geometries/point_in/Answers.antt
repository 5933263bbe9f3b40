use Rattle.std.proofs.Common.{sym, ◌∙◌, rules, w64}
use mir.Val.{SFits}
use Rattle.std.proofs.lemmas.Int.{to_z-of_z}
use Rattle.tile_arguments.proofs.Points.{without_comma, without_x, without_y, with_both}
use Rattle.tile_arguments.proofs.geometries.point_in.Goals as goal

pub returns-in_err-comma : goal.returns-in_err-comma
returns-in_err-comma c = c.from_residual.ensures ∙ sym (without_comma c.args.bytes.now (sym c.in_err-comma.ensures))

pub returns-in_err-delta : goal.returns-in_err-delta
returns-in_err-delta c =
    c.from_residual-in_err-delta.ensures ∙ sym (without_x c.args.bytes.now c.split_at.result.0.now c.in_ok-comma.comma (sym c.in_ok-comma.ensures) c.split_at.ensures.front (sym c.in_err-delta.ensures))

pub returns-in_err-delta-2 : goal.returns-in_err-delta-2
returns-in_err-delta-2 c =
    c.from_residual-in_err-delta-2.ensures ∙ sym (without_y c.args.bytes.now c.split_at-2.result.1.now c.in_ok-comma.comma (sym c.in_ok-comma.ensures) c.split_at-2.ensures.back (sym c.in_err-delta-2.ensures))

pub returns : goal.returns
returns c =
    let along : SFits w64 c.in_ok-delta.field-0 = search rules in
    let down : SFits w64 c.in_ok-delta-2.field-0 = search rules in
    let point = sym (with_both c.args.bytes.now c.split_at.result.0.now c.split_at-2.result.1.now c.in_ok-comma.comma c.in_ok-delta.field-0 c.in_ok-delta-2.field-0 (sym c.in_ok-comma.ensures) c.split_at.ensures.front c.split_at-2.ensures.back (sym c.in_ok-delta.ensures) (sym c.in_ok-delta-2.ensures)) in
    simp to_z-of_z point

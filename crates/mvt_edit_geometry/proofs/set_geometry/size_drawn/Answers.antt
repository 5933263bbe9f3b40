use Rattle.std.proofs.Common.{◌+◌, ap, arith}
use Rattle.std.proofs.lemmas.List.{take_rest}
use Rattle.mvt_document.specs.declared.TheConstants.{MAX_FILE}
use Rattle.mvt_document.proofs.Sizes.{same_size}
use Rattle.mvt_edit_geometry.proofs.Drawn.{drawn_weighs, others_weigh}
use Rattle.mvt_edit_geometry.proofs.set_geometry.size_drawn.Goals as goal

pub returns-in_err-size : goal.returns-in_err-size
returns-in_err-size c =
    let kind = c.args.kind.now in
    let whole = drawn_weighs kind.index kind.take kind.put.items c.args.fields.now c.args.drawing.now in
    rw c.from_residual.ensures (λ within. c.in_err-size.ensures (omega (arith, within, whole)))

pub returns-in_err-size-2 : goal.returns-in_err-size-2
returns-in_err-size-2 c =
    let kind = c.args.kind.now in
    let whole = drawn_weighs kind.index kind.take kind.put.items c.args.fields.now c.args.drawing.now in
    let first = c.in_ok-size.ensures.1 in
    rw c.from_residual-in_err-size-2.ensures (λ within. c.in_err-size-2.ensures (omega (arith, within, whole, first)))

pub returns-in_err-size-3 : goal.returns-in_err-size-3
returns-in_err-size-3 c =
    let kind = c.args.kind.now in
    let whole = drawn_weighs kind.index kind.take kind.put.items c.args.fields.now c.args.drawing.now in
    let first = c.in_ok-size.ensures.1 in
    let second = c.in_ok-size-2.ensures.1 in
    let none = rw c.as_slice.ensures.value at c.in_err-size-3.ensures in
    rw c.from_residual-in_err-size-3.ensures (λ within. none (omega (arith, within, whole, first, second)))

pub returns : goal.returns
returns c =
    let kind = c.args.kind.now in
    let whole = drawn_weighs kind.index kind.take kind.put.items c.args.fields.now c.args.drawing.now in
    let first = c.in_ok-size.ensures.1 in
    let second = c.in_ok-size-2.ensures.1 in
    let third = rw c.as_slice.ensures.value at c.in_ok-size-3.ensures.1 in
    let rest = ap others_weigh (take_rest c.args.fields.now (kind.index + kind.take)) in
    same_size MAX_FILE c.and_others-3.result _ _ (omega (arith, whole, first, second, third, rest)) c.and_others-3.ensures

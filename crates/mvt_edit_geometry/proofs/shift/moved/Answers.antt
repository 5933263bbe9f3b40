use Rattle.std.proofs.Common.{refl, sym, w64}
use Rattle.std.proofs.lemmas.Int.{to_z-of_z}
use Rattle.std.proofs.lemmas.Bool.{and_left, and_right}
use Rattle.mvt_geometry.specs.Checks.{is_delta}
use Rattle.mvt_meaning.specs.Geometries.{further}
use Rattle.mvt_edit_geometry.proofs.shift.moved.Goals as goal

pub returns-in_err-further-clause-able : goal.returns-in_err-further-clause-able
returns-in_err-further-clause-able c =
    let held = rw (to_z-of_z w64 c.args.dx c.ranges.dx) at c.in_err-further.ensures.held in
    rw c.from_residual.ensures (sym (and_left (is_delta (further c.args.dx c.args.x)) (is_delta (further c.args.dy c.args.y)) (sym held)))

pub returns-in_err-further-2-clause-able : goal.returns-in_err-further-2-clause-able
returns-in_err-further-2-clause-able c =
    let held = rw (to_z-of_z w64 c.args.dy c.ranges.dy) at c.in_err-further-2.ensures.held in
    rw c.from_residual-in_err-further-2.ensures (sym (and_right (is_delta (further c.args.dx c.args.x)) (is_delta (further c.args.dy c.args.y)) (sym held)))

pub returns-clause-decided : goal.returns-clause-decided
returns-clause-decided c =
    let along = rw (to_z-of_z w64 c.args.dx c.ranges.dx) at c.in_ok-further.ensures.holds in
    let down = rw (to_z-of_z w64 c.args.dy c.ranges.dy) at c.in_ok-further-2.ensures.holds in
    rw (along, down) refl

use Rattle.std.proofs.Common.{◌+◌, ◌++◌, ℕ, List, drop, get_or, ap, ◌∙◌, subst, arith}
use Rattle.std.proofs.lemmas.Result.{err_from_is_err_and}
use Rattle.std.proofs.lemmas.List.{drop_more}
use Rattle.mvt_geometry.specs.Shapes.{Point}
use Rattle.mvt_geometry.specs.Integers.{parameters, origin, packed}
use Rattle.mvt_geometry.proofs.Packs.{Putting, put_point, put_points_all}
use Rattle.mvt_geometry.proofs.encode.put_points.Goals as goal

pub returns-in_err-put_move-clause-out_of_range : goal.returns-in_err-put_move-clause-out_of_range
returns-in_err-put_move-clause-out_of_range c = λ e short.
    let is = err_from_is_err_and c.from_residual-in_err-put_move.result c.from_residual-in_err-put_move.ensures.1 in
    let points = c.args.points.now in
    let i = c.loop-point.point-index in
    let front = drop_more points i origin (omega (arith, c.loop-point-test.true)) in
    let r = subst (λ (s : List Point). Putting c.args.from points c.reserve.new.self.items c.loop-point.last s c.loop-point.bytes.items) front c.loop-point.invariant in
    let left = r.only short in
    c.in_err-put_move.ensures.out_of_range (cc (is.1, is.2, e)) (left.0, (left.1.0, tt))

pub loop-point-preserved : goal.loop-point-preserved
loop-point-preserved c =
    let points = c.args.points.now in
    let i = c.loop-point.point-index in
    let front = drop_more points i origin (omega (arith, c.loop-point-test.true)) in
    let r = subst (λ (s : List Point). Putting c.args.from points c.reserve.new.self.items c.loop-point.last s c.loop-point.bytes.items) front c.loop-point.invariant in
    put_point c.args.from points c.reserve.new.self.items c.loop-point.last (get_or points i origin) (drop (i + 1) points) c.loop-point.bytes.items c.put_move.new.bytes.items r c.in_ok-put_move.ensures.bytes c.in_ok-put_move.ensures.short

pub returns-clause-bytes : goal.returns-clause-bytes
returns-clause-bytes c =
    let all = put_points_all _ _ _ _ _ _ c.loop-point-test.false c.loop-point.invariant in
    all.0 ∙ ap (λ (old : List ℕ). old ++ packed (parameters c.args.from c.args.points.now)) c.in_ok-reserve.ensures.items

pub returns-clause-short : goal.returns-clause-short
returns-clause-short c = (put_points_all _ _ _ _ _ _ c.loop-point-test.false c.loop-point.invariant).1

pub returns-clause-last : goal.returns-clause-last
returns-clause-last c = (put_points_all _ _ _ _ _ _ c.loop-point-test.false c.loop-point.invariant).2

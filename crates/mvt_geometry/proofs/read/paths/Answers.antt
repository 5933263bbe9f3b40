use Rattle.std.proofs.Common.{◌≡◌, ℕ, ◌≤◌, List, [], ◌∷◌, ◌++◌, length, map, refl, subst, arith}
use Rattle.std.proofs.lemmas.Result.{err_from_is_err_and}
use Rattle.std.proofs.lemmas.List.{map_push, nil_from_length}
use Rattle.mvt_geometry.specs.Shapes.{least_points}
use Rattle.mvt_geometry.specs.Integers.{closing_of, origin}
use Rattle.mvt_geometry.specs.Stands.{points_of}
use Rattle.mvt_geometry.proofs.Parts.{PartsRead, parts_more, parts_no_more, parts_end, has_geometry, geometry_goes, numbers_some, goes_some, least_some}
use Rattle.mvt_geometry.proofs.read.paths.Goals as goal

pub returns-then-is_empty-clause-bad : goal.returns-then-is_empty-clause-bad
returns-then-is_empty-clause-bad c = λ e g h.
    let some = numbers_some c.args.kind c.args.numbers.now g c.requires h in
    let none : length c.args.numbers.now ≡ 0 = grind arith in
    omega arith

pub returns-in_err-points-clause-bad : goal.returns-in_err-points-clause-bad
returns-in_err-points-clause-bad c = λ e g h.
    let is = err_from_is_err_and c.from_residual.result c.from_residual.ensures.1 in
    let some : 1 ≤ length c.loop-rest.rest.now = grind arith in
    parts_no_more (least_points c.args.kind) (closing_of c.args.kind) origin c.args.numbers.now c.loop-rest.from c.loop-rest.rest.now (map points_of c.loop-rest.parts.items) some c.loop-rest.invariant (c.in_err-points.ensures.bad (cc (is.1, is.2, e))) g.parts (geometry_goes c.args.kind c.args.numbers.now g c.requires h)

pub loop-rest-preserved : goal.loop-rest-preserved
loop-rest-preserved c =
    let kind = c.args.kind in
    let front = c.in_ok-points.field-0 in
    let read = map points_of c.loop-rest.parts.items in
    let more = parts_more (least_points kind) (closing_of kind) origin c.args.numbers.now c.loop-rest.from c.loop-rest.rest.now read front.points.items front.rest.now (least_some kind) c.in_ok-points.ensures.found c.loop-rest.invariant in
    let pushed : map points_of c.push.new.self.items ≡ read ++ front.points.items ∷ [] = rw (c.in_ok-push.ensures.items, map_push, c.from_vec.ensures.items) refl in
    rw (c.in_ok-points.ensures.last, pushed) more

pub returns-clause-found : goal.returns-clause-found
returns-clause-found c =
    let kind = c.args.kind in
    let numbers = c.args.numbers.now in
    let read = map points_of c.loop-rest.parts.items in
    let some : 1 ≤ length numbers = grind arith in
    let none : length c.loop-rest.rest.now ≡ 0 = grind arith in
    let whole : PartsRead (least_points kind) (closing_of kind) origin numbers c.loop-rest.from [] read = subst (λ (s : List ℕ). PartsRead (least_points kind) (closing_of kind) origin numbers c.loop-rest.from s read) (nil_from_length c.loop-rest.rest.now none) c.loop-rest.invariant in
    let goes = parts_end (least_points kind) (closing_of kind) origin numbers c.loop-rest.from read whole in
    has_geometry kind numbers read c.requires (goes_some _ _ _ numbers read some goes) goes

use Rattle.std.proofs.Common.{◌≡◌, ℕ, ◌+◌, ◌*◌, ◌/◌, ◌^◌, ◌<◌, List, [], ◌∷◌, length, drop, get_or, refl, subst, arith}
use Rattle.std.proofs.lemmas.List.{take_rest}
use Rattle.std.proofs.lemmas.Result.{err_from_is_err_and}
use Rattle.mvt_geometry.specs.Shapes.{Point, Dots}
use Rattle.mvt_geometry.specs.Integers.{origin, HasGeometry}
use Rattle.mvt_geometry.specs.Walks.{GoesOn}
use Rattle.mvt_geometry.proofs.Moves.{one_move}
use Rattle.mvt_geometry.proofs.Single.{three_at_least, first_three, dots_open, dots_have}
use Rattle.mvt_geometry.proofs.read.dots.Goals as goal
use Rattle.mvt_geometry.proofs.read.dots.Goals.{then-command-ne-MOVE_TO-via-then-command-ne-MOVE_TO, then-command-ne-MOVE_TO-via-else-command-ne-MOVE_TO+then-following-count}

pub returns-in_default-clause-bad : goal.returns-in_default-clause-bad
returns-in_default-clause-bad c = λ e g h. let some = three_at_least c.args.numbers.now g h in omega (arith, c.in_default.len_below)

pub returns-then-command-ne-MOVE_TO-clause-bad : goal.returns-then-command-ne-MOVE_TO-clause-bad
returns-then-command-ne-MOVE_TO-clause-bad c = λ e g h.
    let o = dots_open c.args.numbers.now g h in
    let counts = o.counts in
    let long = o.long in
    elim c.then-command-ne-MOVE_TO.branch [
      | then-command-ne-MOVE_TO-via-then-command-ne-MOVE_TO w ↦ omega arith
      | then-command-ne-MOVE_TO-via-else-command-ne-MOVE_TO+then-following-count w ↦ let other = rw take_rest at w.if-following-count.true in other (omega arith)
    ]

pub returns-in_default-moved-clause-bad : goal.returns-in_default-moved-clause-bad
returns-in_default-moved-clause-bad c = λ e g h.
    let o = dots_open c.args.numbers.now g h in
    c.in_default-moved.ensures.none o.first o.moves

pub returns-in_err-points-clause-bad : goal.returns-in_err-points-clause-bad
returns-in_err-points-clause-bad c = λ e g h.
    let is = err_from_is_err_and c.from_residual.result c.from_residual.ensures.1 in
    let o = dots_open c.args.numbers.now g h in
    let same : o.first ≡ c.in-Some.first = one_move origin _ _ o.first c.in-Some.first o.moves c.in-Some.ensures.found in
    let there : GoesOn o.first (drop 3 c.args.numbers.now) (o.first ∷ o.others) = (refl, o.leads) in
    let here : GoesOn c.in-Some.first (drop 3 c.args.numbers.now) (o.first ∷ o.others) = subst (λ (q : Point). GoesOn q (drop 3 c.args.numbers.now) (o.first ∷ o.others)) same there in
    c.in_err-points.ensures.bad (cc (is.1, is.2, e)) (o.first ∷ o.others) (rw take_rest here)

pub returns-clause-found : goal.returns-clause-found
returns-clause-found c =
    let numbers = c.args.numbers.now in
    let count = get_or numbers 0 0 / 8 in
    let points = c.in_ok-points.points.items in
    let led : GoesOn c.in-Some.first (drop 3 numbers) points = rw take_rest at c.in_ok-points.ensures.points in
    let line : get_or numbers 0 0 ≡ 1 + 8 * count = omega (arith, c.if-command-ne-MOVE_TO.false) in
    let long : 2 + length (drop 3 numbers) ≡ 2 * count = rw take_rest at c.if-following-count.false in
    let few : count < 2 ^ 29 = omega (arith, c.type_inv.numbers 0) in
    let has = dots_have (get_or numbers 1 0) (get_or numbers 2 0) count (drop 3 numbers) c.in-Some.first points c.in-Some.ensures.found led long few in
    let front = first_three numbers (omega (arith, c.in-len3-up.len_at_least)) in
    let same : (1 + 8 * count) ∷ get_or numbers 1 0 ∷ get_or numbers 2 0 ∷ drop 3 numbers ≡ numbers = cc (front, line) in
    rw (c.in_ok-push.ensures.items, c.in_ok-parts.ensures.items, c.from_vec.ensures.items) (subst (λ (s : List ℕ). HasGeometry 1 s (record { kind = Dots; parts = points ∷ [] })) same has)

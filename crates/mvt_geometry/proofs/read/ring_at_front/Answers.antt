use Rattle.std.proofs.Common.{◌≡◌, ℕ, List, [], ◌∷◌, length, get_or, Bor, ap, ◌∙◌, sym, arith}
use Rattle.std.proofs.lemmas.Result.{err_from_is_err_and}
use Rattle.mvt_geometry.proofs.Fronts.{begins_once, begins_open}
use Rattle.mvt_geometry.proofs.read.ring_at_front.Goals as goal
use Rattle.mvt_geometry.proofs.read.ring_at_front.Goals.{in_default-via-then-rest-lt1, in_default-via-else-rest-lt1+in_default-1}

pub returns-in_err-points-clause-bad : goal.returns-in_err-points-clause-bad
returns-in_err-points-clause-bad c = λ e points rest p.
    let is = err_from_is_err_and c.from_residual.result c.from_residual.ensures.1 in
    let opened = begins_open 3 (15 ∷ []) c.args.from c.args.numbers.now points rest (omega arith) p in
    c.in_err-points.ensures.bad (cc (is.1, is.2, e)) points (15 ∷ rest) (rw c.least_points.ensures opened)

pub returns-in_default-clause-bad : goal.returns-in_default-clause-bad
returns-in_default-clause-bad c = λ e points rest p.
    let opened = begins_open 3 (15 ∷ []) c.args.from c.args.numbers.now points rest (omega arith) p in
    let found = rw c.least_points.ensures at c.in_ok-points.ensures.found in
    let once = begins_once 3 [] c.args.from c.args.numbers.now c.in_ok-points.field-0.points.items points c.in_ok-points.field-0.rest.now (15 ∷ rest) (omega arith) found opened in
    let same : c.in_ok-points.rest.now ≡ 15 ∷ rest = sym (ap (λ (r : Bor (List ℕ)). r.now) c.in_ok-points.rest-is) ∙ once.1 in
    let some = ap length same in
    let first = ap (λ (s : List ℕ). get_or s 0 0) same in
    elim c.in_default.branch [
      | in_default-via-then-rest-lt1 w ↦ grind (arith, some)
      | in_default-via-else-rest-lt1+in_default-1 w ↦ grind (arith, first)
    ]

pub returns-clause-last : goal.returns-clause-last
returns-clause-last c = c.in_ok-points.ensures.last

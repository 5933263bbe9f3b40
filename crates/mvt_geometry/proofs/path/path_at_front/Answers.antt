use Rattle.std.proofs.Common.{◌≡◌, ℕ, ◌+◌, ◌*◌, ◌/◌, ◌^◌, ◌<◌, ◌≤◌, List, [], ◌∷◌, ◌++◌, length, take, drop, get_or, sym, ap, ◌∙◌, subst, arith, rules, length-append}
use Rattle.std.proofs.lemmas.List.{take_rest, take-append-drop}
use Rattle.std.proofs.lemmas.Result.{err_from_is_err_and}
use Rattle.mvt_geometry.specs.Walks.{BeginsWithPart, GoesOn}
use Rattle.mvt_geometry.proofs.Fronts.{begins_with_four, goes_on_from, begins_from, first_four, length-parameters}
use Rattle.mvt_geometry.proofs.Moves.{same_last}
use Rattle.mvt_geometry.proofs.path.path_at_front.Goals as goal
use Rattle.mvt_geometry.proofs.path.path_at_front.Goals.{then-command-ne-LINE_TO-via-then-command-ne-LINE_TO, then-command-ne-LINE_TO-via-else-command-ne-LINE_TO+then-count-least, then-command-ne-LINE_TO-via-else-command-ne-LINE_TO+else-count-least+then-following-count}

pub returns-then-command-ne-LINE_TO-clause-bad : goal.returns-then-command-ne-LINE_TO-clause-bad
returns-then-command-ne-LINE_TO-clause-bad c = λ e points rest p.
    let o = begins_with_four c.args.least c.args.from c.args.numbers.now points rest c.requires.some p in
    let line = o.line_to in
    let enough = o.enough in
    let long : 2 * length o.others ≤ length (drop 4 c.args.numbers.now) = omega (arith, ap length o.spelled, length-append {A = ℕ}, length-parameters o.first o.others) in
    elim c.then-command-ne-LINE_TO.branch [
      | then-command-ne-LINE_TO-via-then-command-ne-LINE_TO w ↦ omega arith
      | then-command-ne-LINE_TO-via-else-command-ne-LINE_TO+then-count-least w ↦ omega arith
      | then-command-ne-LINE_TO-via-else-command-ne-LINE_TO+else-count-least+then-following-count w ↦ let few = rw take_rest at w.if-following-count.true in omega (arith, few)
    ]

pub returns-in_err-points-clause-bad : goal.returns-in_err-points-clause-bad
returns-in_err-points-clause-bad c = λ e points rest p.
    let is = err_from_is_err_and c.from_residual.result c.from_residual.ensures.1 in
    let led = goes_on_from c.args.least c.args.from c.args.numbers.now points rest c.in-Some.first c.requires.some p c.in-Some.ensures.found in
    c.in_err-points.ensures.bad (cc (is.1, is.2, e)) points (rw (c.split_at.ensures.front, take_rest) led)

pub returns-clause-found : goal.returns-clause-found
returns-clause-found c =
    let numbers = c.args.numbers.now in
    let count = get_or numbers 3 0 / 8 in
    let points = c.in_ok-points.points.items in
    let rest = c.split_at.result.1.now in
    let led : GoesOn c.in-Some.first (take (2 * count) (drop 4 numbers)) points = rw (c.split_at.ensures.front, take_rest) at c.in_ok-points.ensures.points in
    let first : get_or numbers 0 0 ≡ 9 = search rules in
    let line : get_or numbers 3 0 ≡ 2 + 8 * count = omega (arith, c.if-command-ne-LINE_TO.false) in
    let whole : drop 4 numbers ≡ take (2 * count) (drop 4 numbers) ++ rest = rw (c.split_at.ensures.back, take_rest) (sym (take-append-drop (2 * count) (drop 4 numbers))) in
    let long : length (take (2 * count) (drop 4 numbers)) ≡ 2 * count = rw (c.split_at.ensures.front, take_rest) at c.split_at.ensures.front_len in
    let few : count < 2 ^ 29 = omega (arith, c.type_inv.numbers 3) in
    let enough : c.args.least ≤ 1 + count = omega (arith, c.if-count-least.false) in
    let begins = begins_from c.args.least c.args.from (get_or numbers 1 0) (get_or numbers 2 0) count (take (2 * count) (drop 4 numbers)) (drop 4 numbers) rest c.in-Some.first points c.in-Some.ensures.found led long enough few whole in
    let front = first_four numbers (omega (arith, c.in-9.len_at_least)) in
    let same : 9 ∷ get_or numbers 1 0 ∷ get_or numbers 2 0 ∷ (2 + 8 * count) ∷ drop 4 numbers ≡ numbers = cc (front, first, line) in
    subst (λ (s : List ℕ). BeginsWithPart c.args.least [] c.args.from s points rest) same begins

pub returns-clause-last : goal.returns-clause-last
returns-clause-last c = c.in_ok-points.ensures.last ∙ same_last c.in-Some.first c.args.from _ c.in_ok-points.points.items c.in_ok-points.ensures.points

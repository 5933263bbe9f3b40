use Rattle.std.proofs.Common.{◌≡◌, ℕ, List, [], ◌∷◌, length, drop, get_or, refl, subst, arith}
use Rattle.std.proofs.lemmas.List.{take_rest, nil_from_length}
use Rattle.mvt_geometry.proofs.Moves.{ReadOn, read_more, read_no_more, read_odd, read_end, first_two}
use Rattle.mvt_geometry.proofs.steps.points_from.Goals as goal

pub returns-in_default-moved-clause-bad : goal.returns-in_default-moved-clause-bad
returns-in_default-moved-clause-bad c =
    let rest = c.loop-rest.rest.now in
    let front = first_two rest (omega (arith, c.in-len2-up.len_at_least)) in
    let read = subst (λ (r : List ℕ). ReadOn c.args.first c.args.parameters.now c.loop-rest.last r c.loop-rest.points.items) front c.loop-rest.invariant in
    λ e. read_no_more c.args.first c.args.parameters.now c.loop-rest.last (get_or rest 0 0) (get_or rest 1 0) (drop 2 rest) c.loop-rest.points.items read c.in_default-moved.ensures.none

pub loop-rest-preserved : goal.loop-rest-preserved
loop-rest-preserved c =
    let rest = c.loop-rest.rest.now in
    let front = first_two rest (omega (arith, c.in-len2-up.len_at_least)) in
    let read = subst (λ (r : List ℕ). ReadOn c.args.first c.args.parameters.now c.loop-rest.last r c.loop-rest.points.items) front c.loop-rest.invariant in
    let more = read_more c.args.first c.args.parameters.now c.loop-rest.last (get_or rest 0 0) (get_or rest 1 0) (drop 2 rest) c.loop-rest.points.items c.in-Some.next c.in-Some.ensures.found read in
    rw (take_rest, c.in_ok-push-2.ensures.items) more

pub returns-then-not-is_empty-clause-bad : goal.returns-then-not-is_empty-clause-bad
returns-then-not-is_empty-clause-bad c =
    λ e. read_odd c.args.first c.args.parameters.now c.loop-rest.last c.loop-rest.rest.now c.loop-rest.points.items c.loop-rest.invariant (grind arith) (omega (arith, c.in_default.len_below))

pub returns-clause-points : goal.returns-clause-points
returns-clause-points c =
    let empty = nil_from_length c.loop-rest.rest.now (grind arith) in
    read_end c.args.first c.args.parameters.now c.loop-rest.last c.loop-rest.points.items (subst (λ (r : List ℕ). ReadOn c.args.first c.args.parameters.now c.loop-rest.last r c.loop-rest.points.items) empty c.loop-rest.invariant)

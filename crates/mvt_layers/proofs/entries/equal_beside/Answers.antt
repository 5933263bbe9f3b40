use Rattle.std.proofs.Common.{ℕ, List, ◌+◌, length, ap, ◌∙◌}
use Rattle.std.specs.List.{enumerate_from}
use Rattle.mvt_layers.specs.Pools.{first_equal}
use Rattle.mvt_layers.proofs.Equals.{counted_ended, equal_ended}
use Rattle.mvt_layers.proofs.entries.equal_beside.Goals as goal

pub returns-in-Err-clause-found : goal.returns-in-Err-clause-found
returns-in-Err-clause-found c =
    let equal = λ (placed : List (ℕ × List ℕ)). first_equal c.args.bytes.now (enumerate_from c.in-Err.next placed) in
    equal_ended c.args.number c.args.bytes.now c.args.items.now _ _ c.equal_before-in-Err.result (c.in-Err.ensures.none ∙ ap equal (c.features_from-end.ensures.passed c.args.number)) c.equal_before-in-Err.ensures.found c.equal_before-in-Err.ensures.none

pub returns-in-Err-clause-count : goal.returns-in-Err-clause-count
returns-in-Err-clause-count c =
    let passed = ap (λ (placed : List (ℕ × List ℕ)). c.in-Err.next + length placed) (c.features_from-end.ensures.passed c.args.number) in
    counted_ended c.args.number c.args.items.now _ _ c.equal_before-in-Err.result (c.in-Err.ensures.count ∙ passed) c.equal_before-in-Err.ensures.count

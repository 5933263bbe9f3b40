use Rattle.std.proofs.Common.{◌≡◌, ◌+◌, ◌++◌, cond, inl, inr, map, ap, ◌∙◌, arith}
use Rattle.std.proofs.lemmas.Bool.{cases_Bool}
use Rattle.mvt_layers.specs.Seen.{pair_seen}
use Rattle.mvt_edit_steps.specs.Decided.{decided_by}
use Rattle.mvt_edit_pools.specs.Marks.{pair_repointed}
use Rattle.mvt_edit_pools.proofs.Numbering.{one_at_most}
use Rattle.mvt_edit_pools.proofs.Repointed.{counted_all, counted_further, decided_all, decided_further}
use Rattle.mvt_edit_pools.proofs.repoint.decide.Goals as goal

pub loop-pair-init : goal.loop-pair-init
loop-pair-init c = record {
  decided = ap (λ list. list ++ decided_by (pair_repointed c.args.key_ordinals.now c.args.value_ordinals.now) (map pair_seen c.args.pairs.now)) c.clear.ensures.items;
  counted = omega arith;
  few = omega arith;
}

pub loop-pair-preserved : goal.loop-pair-preserved
loop-pair-preserved c =
    let said = pair_repointed c.args.key_ordinals.now c.args.value_ordinals.now in
    let changes = c.in_ok-changes.changes in
    let counts : c.from-changed.result ≡ cond changes 1 0 =
    elim (cases_Bool changes) [
      | inl differs ↦ (let one : c.from-changed.result ≡ 1 = rw differs at c.from-changed.ensures in rw differs one)
      | inr same ↦ (let none : c.from-changed.result ≡ 0 = rw same at c.from-changed.ensures in rw same none)
    ] in
    record {
      decided = decided_further said c.args.pairs.now c.loop-pair.pair-index _ c.loop-pair-test.true c.loop-pair.decisions.items _ _ c.loop-pair.invariant.decided c.in_ok-changes.ensures.decided;
      counted = counted_further said c.args.pairs.now c.loop-pair.pair-index _ c.loop-pair-test.true c.loop-pair.changed _ _ c.loop-pair.invariant.counted (counts ∙ ap (λ is. cond is 1 0) c.in_ok-changes.ensures.changes);
      few = (let one = ap (λ n. c.loop-pair.changed + n) counts in one_at_most changes c.loop-pair.changed _ c.loop-pair.pair-index c.loop-pair.invariant.few one);
    }

pub returns-clause-decided : goal.returns-clause-decided
returns-clause-decided c = decided_all (pair_repointed c.args.key_ordinals.now c.args.value_ordinals.now) c.args.pairs.now c.loop-pair.pair-index _ _ c.loop-pair-test.false c.loop-pair.invariant.decided

pub returns-clause-counted : goal.returns-clause-counted
returns-clause-counted c = counted_all (pair_repointed c.args.key_ordinals.now c.args.value_ordinals.now) c.args.pairs.now c.loop-pair.pair-index _ _ c.loop-pair-test.false c.loop-pair.invariant.counted

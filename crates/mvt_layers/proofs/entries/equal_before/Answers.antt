use Rattle.std.proofs.Common.{ℕ, List, length, refl, sym, ap, ◌∙◌, arith}
use Rattle.std.specs.List.{enumerate_from}
use Rattle.mvt_document.specs.Stands.{layer_item_of}
use Rattle.mvt_layers.specs.Pools.{entry_in, first_equal}
use Rattle.mvt_layers.proofs.Placing.{placed_from-more}
use Rattle.mvt_layers.proofs.entries.equal_before.Goals.{in-Some+else-eq, in_default}
use Rattle.mvt_layers.proofs.entries.equal_before.Goals as goal

pub returns-then-eq-clause-found : goal.returns-then-eq-clause-found
returns-then-eq-clause-found c =
    let l = c.loop-position in
    l.invariant.rest
    ∙ ap (λ (placed : List (ℕ × List ℕ)). first_equal c.args.bytes.now (enumerate_from l.ordinal placed)) (placed_from-more layer_item_of (entry_in c.args.number) l.position c.args.items.now c.index-items-position.result (omega arith) c.index-items-position.is)
    ∙ rw (sym c.entry_in.ensures, c.in-Some.is, sym c.eq.ensures ∙ c.if-eq.true) refl

pub loop-position-preserved : goal.loop-position-preserved
loop-position-preserved c =
    let l = c.loop-position in
    let pick = entry_in c.args.number in
    let step = placed_from-more layer_item_of pick l.position c.args.items.now c.index-items-position.result (omega arith) c.index-items-position.is in
    let more = l.invariant.rest ∙ ap (λ (placed : List (ℕ × List ℕ)). first_equal c.args.bytes.now (enumerate_from l.ordinal placed)) step in
    let long = ap length step in
    elim c.match-entry_in.branch [
      | in-Some+else-eq w ↦ (
          let one = rw (sym c.entry_in.ensures, w.in-Some.is) at long in
          record {
            before = omega (arith, l.invariant.before, w.ordinal-is);
            rest = more ∙ rw (sym c.entry_in.ensures, w.in-Some.is, sym w.eq.ensures ∙ w.if-eq.false, w.ordinal-is) refl;
            count = omega (arith, l.invariant.count, one, w.ordinal-is);
          }
          )
      | in_default w ↦ (
          let none = rw (sym c.entry_in.ensures, w.in_default.is) at long in
          record {
            before = omega (arith, l.invariant.before, w.ordinal-is);
            rest = more ∙ rw (sym c.entry_in.ensures, w.in_default.is, w.ordinal-is) refl;
            count = omega (arith, l.invariant.count, none, w.ordinal-is);
          }
          )
    ]

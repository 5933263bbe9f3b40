use Rattle.std.proofs.Common.{ℕ, List, refl, sym, ap, ◌∙◌, arith}
use Rattle.std.specs.List.{enumerate_from}
use Rattle.mvt_document.specs.Plain.{Feature}
use Rattle.mvt_document.specs.Stands.{layer_item_of}
use Rattle.mvt_messages.specs.Found.{with_id}
use Rattle.mvt_messages.specs.Views.{feature_in}
use Rattle.mvt_layers.proofs.Placing.{placed_from-more}
use Rattle.mvt_layers.proofs.fields.first_with_id.Goals.{in-Feature+else-has_id, in_default}
use Rattle.mvt_layers.proofs.fields.first_with_id.Goals as goal

pub returns-then-has_id-clause-found : goal.returns-then-has_id-clause-found
returns-then-has_id-clause-found c =
    c.loop-position.invariant.rest
    ∙ ap (λ (placed : List (ℕ × Feature)). with_id c.args.id (enumerate_from c.loop-position.ordinal placed)) (placed_from-more layer_item_of feature_in c.loop-position.position c.args.items.now c.index-items-position.result c.loop-position-test.true c.index-items-position.is)
    ∙ rw (c.in-Feature.is, sym c.has_id.ensures ∙ c.if-has_id.true) refl

pub loop-position-preserved : goal.loop-position-preserved
loop-position-preserved c =
    let l = c.loop-position in
    let more = l.invariant.rest
    ∙ ap (λ (placed : List (ℕ × Feature)). with_id c.args.id (enumerate_from l.ordinal placed)) (placed_from-more layer_item_of feature_in l.position c.args.items.now c.index-items-position.result c.loop-position-test.true c.index-items-position.is) in
    elim c.match-items-position.branch [
      | in-Feature+else-has_id w ↦ record {
        before = omega (arith, l.invariant.before, w.ordinal-is);
        rest = more ∙ rw (w.in-Feature.is, sym w.has_id.ensures ∙ w.if-has_id.false, w.ordinal-is) refl;
      }
      | in_default w ↦ record {
        before = omega (arith, l.invariant.before, w.ordinal-is);
        rest = more ∙ rw (w.in_default.is, w.ordinal-is) refl;
      }
    ]

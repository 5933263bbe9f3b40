use Rattle.std.proofs.Common.{refl, sym, ◌∙◌, arith}
use Rattle.mvt_document.specs.Stands.{layer_item_of}
use Rattle.mvt_layers.specs.Pools.{entry_in}
use Rattle.mvt_layers.proofs.Placing.{placed_from-more}
use Rattle.mvt_layers.proofs.fields.entry_before.Goals as goal

pub returns-in-Some-clause-found : goal.returns-in-Some-clause-found
returns-in-Some-clause-found c =
    c.loop-position.invariant.rest
    ∙ placed_from-more layer_item_of (entry_in c.args.number) c.loop-position.position c.args.items.now c.index-items-position.result (omega arith) c.index-items-position.is
    ∙ rw (sym c.entry_in.ensures, c.in-Some.is) refl

pub loop-position-preserved : goal.loop-position-preserved
loop-position-preserved c = record {
  after = omega (arith, c.loop-position.invariant.after);
  rest = c.loop-position.invariant.rest
      ∙ placed_from-more layer_item_of (entry_in c.args.number) c.loop-position.position c.args.items.now c.index-items-position.result (omega arith) c.index-items-position.is
      ∙ rw (sym c.entry_in.ensures, c.in_default.is) refl;
}

use Rattle.std.proofs.Common.{refl, ◌∙◌, arith}
use Rattle.mvt_document.specs.Stands.{tile_item_of}
use Rattle.mvt_messages.specs.Views.{layer_in}
use Rattle.mvt_layers.proofs.Placing.{placed_from-more}
use Rattle.mvt_layers.proofs.fields.first_layer.Goals as goal

pub returns-in-Layer-clause-found : goal.returns-in-Layer-clause-found
returns-in-Layer-clause-found c =
    c.loop-position.invariant.rest
    ∙ placed_from-more tile_item_of layer_in c.loop-position.position c.args.items.now c.index-items-position.result c.loop-position-test.true c.index-items-position.is
    ∙ rw c.in-Layer.is refl

pub loop-position-preserved : goal.loop-position-preserved
loop-position-preserved c = record {
  after = omega (arith, c.loop-position.invariant.after);
  rest = c.loop-position.invariant.rest
      ∙ placed_from-more tile_item_of layer_in c.loop-position.position c.args.items.now c.index-items-position.result c.loop-position-test.true c.index-items-position.is
      ∙ rw c.in_default.is refl;
}

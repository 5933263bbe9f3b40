use Rattle.std.proofs.Common.{arith}
use Rattle.mvt_document.specs.declared.run.Kind.TheVariants.{Message}
use Rattle.mvt_document.specs.Kinds.{in_tile_of_kind}
use Rattle.mvt_document.specs.Stands.{tile_item_of}
use Rattle.mvt_messages.specs.Views.{layer_in}
use Rattle.mvt_layers.proofs.InRun.{count_before, is_found_layer, run_total, until_within}
use Rattle.mvt_layers.proofs.Placing.{found_fit}
use Rattle.mvt_layers.proofs.lists.LayerViews.following.Goals as goal

pub returns-clause-bound : goal.returns-clause-bound
returns-clause-bound c =
    let items = c.args.items.now in
    omega (arith, run_total tile_item_of layer_in (in_tile_of_kind Message) is_found_layer c.args.layers items c.requires, found_fit tile_item_of layer_in items c.well_formed.0.0)

pub invariant_of-result : goal.invariant_of-result
invariant_of-result c =
    let f = in_tile_of_kind Message in
    (count_before f c.args.layers c.args.items.now c.requires, until_within f c.args.layers c.args.items.now c.requires)

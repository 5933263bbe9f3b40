use Rattle.std.proofs.Common.{arith}
use Rattle.mvt_document.specs.declared.run.Kind.TheVariants.{Message}
use Rattle.mvt_document.specs.Kinds.{in_layer_of_kind}
use Rattle.mvt_document.specs.Stands.{layer_item_of}
use Rattle.mvt_messages.specs.Views.{feature_in}
use Rattle.mvt_layers.proofs.InRun.{is_found_feature, run_to_end, until_within}
use Rattle.mvt_layers.proofs.fields.up_to_features.Goals as goal

pub returns : goal.returns
returns c =
    let f = in_layer_of_kind Message in
    run_to_end layer_item_of feature_in f is_found_feature c.args.features c.args.items.now c.requires (omega (arith, until_within f c.args.features c.args.items.now c.requires, c.if-features-items.false))

use Rattle.std.proofs.Common.{map, sym, ap, ◌∙◌}
use Rattle.std.specs.List.{enumerate_from}
use Rattle.mvt_document.specs.declared.run.Kind.TheVariants.{Message}
use Rattle.mvt_document.specs.Kinds.{in_layer_of_kind}
use Rattle.mvt_document.specs.Stands.{layer_item_of}
use Rattle.mvt_messages.specs.Found.{found_from}
use Rattle.mvt_messages.specs.Views.{feature_in}
use Rattle.mvt_layers.proofs.InRun.{is_found_feature, none_before}
use Rattle.mvt_layers.proofs.hashed.HashedFeatures.of.Goals as goal

pub returns : goal.returns
returns c =
    let features = c.runs.result.messages in
    ap (λ items. found_from feature_in 0 features.first (map layer_item_of items)) c.as_slice.ensures
    ∙ ap (enumerate_from 0) (sym (none_before layer_item_of feature_in (in_layer_of_kind Message) is_found_feature features c.args.layer.now.items.items c.runs.ensures.messages))

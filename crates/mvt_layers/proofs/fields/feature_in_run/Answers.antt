use Rattle.std.proofs.Common.{Some, ◌+◌, sym, ap, ◌∙◌, arith}
use Rattle.mvt_document.specs.declared.run.Kind.TheVariants.{Message}
use Rattle.mvt_document.specs.Kinds.{in_layer_of_kind}
use Rattle.mvt_document.specs.Stands.{layer_item_of}
use Rattle.mvt_messages.specs.Views.{feature_in}
use Rattle.mvt_layers.proofs.InRun.{is_found_feature, run_read, run_within, there}
use Rattle.mvt_layers.proofs.fields.feature_in_run.Goals as goal

pub overflow_add-position : goal.overflow_add-position
overflow_add-position c = omega (arith, run_within (in_layer_of_kind Message) c.args.features c.args.items.now c.requires.run, c.well_formed.0.0)

pub returns-in-Feature : goal.returns-in-Feature
returns-in-Feature c =
    sym (run_read layer_item_of feature_in (in_layer_of_kind Message) is_found_feature c.args.features c.args.items.now c.args.ordinal c.index-items-position.result c.requires.run c.requires.there c.index-items-position.is
    ∙ ap (λ item. there layer_item_of feature_in (in_layer_of_kind Message) is_found_feature c.args.ordinal (c.args.features.first + c.args.ordinal) (Some item)) c.in-Feature.is)

pub returns-in-Plain : goal.returns-in-Plain
returns-in-Plain c =
    sym (run_read layer_item_of feature_in (in_layer_of_kind Message) is_found_feature c.args.features c.args.items.now c.args.ordinal c.index-items-position.result c.requires.run c.requires.there c.index-items-position.is
    ∙ ap (λ item. there layer_item_of feature_in (in_layer_of_kind Message) is_found_feature c.args.ordinal (c.args.features.first + c.args.ordinal) (Some item)) c.in-Plain.is)

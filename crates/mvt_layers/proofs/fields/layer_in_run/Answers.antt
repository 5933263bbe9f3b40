use Rattle.std.proofs.Common.{Some, ◌+◌, sym, ap, ◌∙◌, arith}
use Rattle.mvt_document.specs.declared.run.Kind.TheVariants.{Message}
use Rattle.mvt_document.specs.Kinds.{in_tile_of_kind}
use Rattle.mvt_document.specs.Stands.{tile_item_of}
use Rattle.mvt_messages.specs.Views.{layer_in}
use Rattle.mvt_layers.proofs.InRun.{is_found_layer, run_read, run_within, there}
use Rattle.mvt_layers.proofs.fields.layer_in_run.Goals as goal

pub overflow_add-position : goal.overflow_add-position
overflow_add-position c = omega (arith, run_within (in_tile_of_kind Message) c.args.layers c.args.items.now c.requires.run, c.well_formed.0.0)

pub returns-in-Layer : goal.returns-in-Layer
returns-in-Layer c =
    sym (run_read tile_item_of layer_in (in_tile_of_kind Message) is_found_layer c.args.layers c.args.items.now c.args.ordinal c.index-items-position.result c.requires.run c.requires.there c.index-items-position.is
    ∙ ap (λ item. there tile_item_of layer_in (in_tile_of_kind Message) is_found_layer c.args.ordinal (c.args.layers.first + c.args.ordinal) (Some item)) c.in-Layer.is)

pub returns-in-Plain : goal.returns-in-Plain
returns-in-Plain c =
    sym (run_read tile_item_of layer_in (in_tile_of_kind Message) is_found_layer c.args.layers c.args.items.now c.args.ordinal c.index-items-position.result c.requires.run c.requires.there c.index-items-position.is
    ∙ ap (λ item. there tile_item_of layer_in (in_tile_of_kind Message) is_found_layer c.args.ordinal (c.args.layers.first + c.args.ordinal) (Some item)) c.in-Plain.is)

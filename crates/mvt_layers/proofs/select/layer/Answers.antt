use Rattle.std.proofs.Common.{sym, ◌∙◌}
use Rattle.std.proofs.lemmas.Iterator.Consumers.{nth_from_yields_List, YieldsList-from_first}
use Rattle.mvt_document.specs.declared.run.Kind.TheVariants.{Message}
use Rattle.mvt_document.specs.Kinds.{in_tile_of_kind}
use Rattle.mvt_document.specs.Stands.{tile_item_of}
use Rattle.mvt_messages.specs.Views.{layer_in}
use Rattle.mvt_layers.specs.Seen.{found_layer_seen}
use Rattle.mvt_layers.proofs.InRun.{is_found_layer, run_past}
use Rattle.mvt_layers.proofs.select.layer.Goals as goal

pub returns : goal.returns
returns c =
    let items = c.args.document.now.items.items in
    nth_from_yields_List _ _ _ c.nth.ensures.ran (YieldsList-from_first found_layer_seen (λ left. left) _ c.following.ensures.items)
    ∙ rw c.as_slice-items.ensures (sym (run_past tile_item_of layer_in (in_tile_of_kind Message) is_found_layer c.runs.result.messages items c.args.ordinal c.runs.ensures.messages c.if-ordinal-layers.false))

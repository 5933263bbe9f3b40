use Rattle.std.proofs.Common.{◌+◌, sym, ap, ◌∙◌, arith}
use Rattle.std.proofs.lemmas.Iterator.Consumers.{count_from_yields_List, YieldsList-from_first}
use Rattle.mvt_document.specs.declared.run.Kind.TheVariants.{Message}
use Rattle.mvt_document.specs.Kinds.{in_tile_of_kind}
use Rattle.mvt_document.specs.Stands.{document_of, tile_item_of}
use Rattle.mvt_messages.specs.Views.{layer_in}
use Rattle.mvt_layers.specs.Seen.{found_layer_seen}
use Rattle.mvt_layers.proofs.InRun.{is_found_layer, run_total}
use Rattle.mvt_layers.proofs.Placing.{found_count}
use Rattle.mvt_layers.proofs.select.layer_count.Goals as goal

pub overflow_add-result : goal.overflow_add-result
overflow_add-result c =
    let count = count_from_yields_List _ _ c.count.ensures.ran (YieldsList-from_first found_layer_seen (λ left. left) _ c.following.ensures.items) in
    let bound = rw c.following.ensures.items at c.following.ensures.bound in
    omega (arith, count, bound)

pub returns : goal.returns
returns c =
    let items = c.args.document.now.items.items in
    let layers = c.runs.result.messages in
    ap (λ n. layers.count + n) (count_from_yields_List _ _ c.count.ensures.ran (YieldsList-from_first found_layer_seen (λ left. left) _ c.following.ensures.items))
    ∙ rw c.as_slice.ensures (sym (run_total tile_item_of layer_in (in_tile_of_kind Message) is_found_layer layers items c.runs.ensures.messages))
    ∙ found_count layer_in (document_of c.args.document.now)

use Rattle.std.proofs.Common.{◌++◌, map, rules, sym, ap, ◌∙◌}
use Rattle.std.proofs.lemmas.Simd.{map-map}
use Rattle.mvt_document.specs.Stands.{layer_item_of}
use Rattle.mvt_change.specs.Changes.{LayerStep}
use Rattle.mvt_change.specs.ChangeStands.{step_of}
use Rattle.mvt_edit_steps.specs.Fates.{goes_if, seen, splices_of}
use Rattle.mvt_edit_steps.proofs.Carrying.{in_layer_at}
use Rattle.mvt_edit_pools.proofs.SeenMarks.{marks_seen}
use Rattle.mvt_edit_pools.specs.Marks.{entry_steps}
use Rattle.mvt_edit_pools.proofs.entries.take_entries.Goals as goal

pub returns : goal.returns
returns c =
    let layer = c.args.found.position in
    let marks = c.as_slice.result.now in
    let given = map step_of c.args.steps.now.items in
    let done = c.in_ok-take_out.ensures (λ s. LayerStep layer s.index s.taken (map layer_item_of s.put)) (λ run made says. search rules) in
    done.following
    ∙ ap (λ more. given ++ more) (sym (map-map (in_layer_at layer) (seen layer_item_of) (splices_of (map (λ is. goes_if is) marks))) ∙ ap (map (in_layer_at layer)) (marks_seen layer_item_of marks))
    ∙ ap (λ picked. given ++ entry_steps layer picked) (c.as_slice.ensures.value ∙ c.in_ok-gone.ensures)

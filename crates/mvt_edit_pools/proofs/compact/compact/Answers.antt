use Rattle.std.proofs.Common.{[], ◌∷◌, ◌++◌, inl, inr, map, sym, ap, ◌∙◌}
use Rattle.std.proofs.lemmas.Result.{err_from_is_err_and}
use Rattle.std.proofs.lemmas.List.{append-nil}
use Rattle.std.specs.List.{flat_map}
use Rattle.mvt_change.specs.ChangeStands.{step_of}
use Rattle.mvt_document.specs.Stands.{document_of}
use Rattle.mvt_meaning.specs.CommandStands.{layers_choice_of}
use Rattle.mvt_meaning.specs.Tagging.{unreadable}
use Rattle.mvt_layers.specs.Seen.{found_layer_seen}
use Rattle.mvt_select.specs.Found.{layers_left}
use Rattle.mvt_edit_steps.proofs.StepsPassed.{steps_more}
use Rattle.mvt_edit_pools.specs.Pools.{compacting, keys_stay, values_stay}
use Rattle.mvt_edit_pools.proofs.Compacted.{compaction_asks, compacts, layer_refused, none_selected, readable_after}
use Rattle.mvt_edit_pools.proofs.compact.compact.Goals as goal

pub returns : goal.returns
returns c =
    let pools = c.args.pools in
    let found = layers_left c.in_ok-layers.layers in
    let steps = compacting (keys_stay pools) (values_stay pools) in
    let all = ap layers_left c.into_iter-found-iterator.ensures.into_iter_gives in
    let none = c.in-None.ensures.steps.0 in
    compacts pools (layers_choice_of c.args.choice.now) c.args.document.now found _ c.in_ok-layers.ensures.found
    (ap unreadable (sym all) ∙ sym c.loop-found.invariant.readable ∙ ap unreadable none)
    (c.new.ensures.change
    ∙ sym (append-nil (map step_of c.loop-found.steps.items))
    ∙ ap (λ left. map step_of c.loop-found.steps.items ++ flat_map steps left) (sym none)
    ∙ c.loop-found.invariant.steps
    ∙ ap (flat_map steps) all)

pub returns-in_err-layers : goal.returns-in_err-layers
returns-in_err-layers c =
    let passed = err_from_is_err_and c.from_residual.result c.from_residual.ensures.1 in
    rw (passed.1, passed.2) (inr (none_selected c.args.pools (layers_choice_of c.args.choice.now) (document_of c.args.document.now) _ c.in_err-layers.ensures.refused))

pub loop-found-preserved : goal.loop-found-preserved
loop-found-preserved c =
    let pools = c.args.pools in
    let at = found_layer_seen c.in-Some.found in
    let rest = layers_left c.next.new.self in
    let steps = compacting (keys_stay pools) (values_stay pools) in
    let front = map step_of c.loop-found.steps.items in
    record {
      steps = steps_more steps front _ _ at rest c.in_ok-compact_layer.ensures.steps (ap (λ left. front ++ flat_map steps left) (sym c.in-Some.ensures.steps) ∙ c.loop-found.invariant.steps);
      readable = sym (readable_after at rest c.in_ok-compact_layer.ensures.readable) ∙ ap unreadable (sym c.in-Some.ensures.steps) ∙ c.loop-found.invariant.readable;
    }

pub returns-in_err-compact_layer : goal.returns-in_err-compact_layer
returns-in_err-compact_layer c =
    let at = found_layer_seen c.in-Some.found in
    let rest = layers_left c.next.new.self in
    let all = ap layers_left c.into_iter-found-iterator.ensures.into_iter_gives in
    let passed = err_from_is_err_and c.from_residual-in_err-compact_layer.result c.from_residual-in_err-compact_layer.ensures.1 in
    rw (passed.1, passed.2) (
    elim c.in_err-compact_layer.ensures.refused [
      | inl memory ↦ inl (memory, compaction_asks c.args.pools (layers_choice_of c.args.choice.now) (document_of c.args.document.now) (layers_left c.in_ok-layers.layers) c.in_ok-layers.ensures.found)
      | inr bad ↦ inr (layer_refused c.args.pools (layers_choice_of c.args.choice.now) (document_of c.args.document.now) (layers_left c.in_ok-layers.layers) at rest _ c.in_ok-layers.ensures.found
          (ap unreadable (sym c.in-Some.ensures.steps) ∙ c.loop-found.invariant.readable ∙ ap unreadable all) bad)
    ])
